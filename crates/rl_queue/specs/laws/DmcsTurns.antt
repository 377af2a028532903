-- What a rank learns from an act of D-MCS: its number stays, its standing changes as it may, and its events are in order.
use Rattle.std.specs.Prelude.{◌≡◌, ℕ, ◌+◌, ◌-◌, ◌<◌, ◌≤◌, ◌==◌, Bool, true, false, List, [], ◌∷◌, length, if◌then◌else◌, Some, refl}
use Rattle.std.proofs.Common.{arith}
use Rattle.rl_word.specs.declared.acts.Act.{Act}
use Rattle.rl_step.specs.declared.events.Event.{Event}
use Rattle.rl_step.specs.declared.events.Event.TheVariants as event
use Rattle.rl_step.specs.Lock.{Told, PlansLoad, Shift, holds_only, InOrder, IsMember, AllNamed}
use Rattle.rl_step.specs.Queues.{tenures}
use Rattle.rl_queue.specs.declared.view.Phase.{Phase}
use Rattle.rl_queue.specs.declared.view.Phase.TheVariants.{Idle, Clear, Reset, Swing, Link, Wait, Settle, Granted, Look, Close, Await, Hand, Above}
use Rattle.rl_queue.specs.declared.view.QueueView.{QueueView}
use Rattle.rl_queue.specs.laws.Choices.{choose, lt_test}
use Rattle.rl_queue.specs.Queue.{TheNames, moves_to, moves_with, waits_at, joined_at, plan_at}
use Rattle.rl_queue.specs.Dmcs.{dmcs_names, dmcs_enter, dmcs_turn, dmcs_learn, dmcs_queue, Calm}
use Rattle.rl_queue.specs.Standings.{standing_of}

-- each rank is a member of the one queue
is_member : (n k : ℕ) → k < n → IsMember (dmcs_queue n ∷ []) 0 k
is_member n k h = record { queue = dmcs_queue n; is_queue = refl; is_member = lt_test k n h }

-- what the laws ask of what rank k of n learns in phase p: its number, how its standing changes, its events, and where it is left
pub record TurnFits (n k : ℕ) (p : Phase) (u : Told QueueView) : Type 0 where
  pub member : u.view.member ≡ k
  pub shift : Shift k (standing_of p) (standing_of u.view.phase) (holds_only u.events)
  pub order : InOrder u.events
  pub few : length u.events ≤ 8
  pub names : AllNamed (dmcs_queue n ∷ []) (λ c. false) u.events
  pub ends : tenures (dmcs_queue n) u.events ≡ 0
  pub calm : Calm u.view.phase

-- it is so in each phase that plans an act
pub turn_fits : (n k : ℕ) (p : Phase) (a : Act) (got : ℕ) → plan_at (dmcs_names n) k p ≡ Some a → Calm p → k < n →
    ((s left : ℕ) → p ≡ Hand s left → s < n) → TurnFits n k p (dmcs_learn n k p got)
turn_fits n k Clear a got pl calm lt hs = record { member = refl; shift = refl; order = tt; few = omega arith; names = tt; ends = refl; calm = tt }
turn_fits n k Reset a got pl calm lt hs = record { member = refl; shift = refl; order = tt; few = omega arith; names = tt; ends = refl; calm = tt }
turn_fits n k (Swing guess) a got pl calm lt hs =
    choose (λ u. TurnFits n k (Swing guess) (dmcs_turn k u)) (got == guess) (moves_with (joined_at guess) (event.Join 0 k)) (moves_to (Swing got))
    (choose (λ q. TurnFits n k (Swing guess) (dmcs_turn k (moves_with q (event.Join 0 k)))) (guess == 0) Settle (Link guess)
    (record {
      member = refl;
      shift = refl;
      order = (omega arith, (omega arith, tt));
      few = omega arith;
      names =
          (is_member n k lt, (is_member n k lt, (tt, tt)));
      ends = refl;
      calm = tt;
    })
    (record { member = refl; shift = refl; order = tt; few = omega arith; names = (is_member n k lt, tt); ends = refl; calm = tt }))
    (record { member = refl; shift = refl; order = tt; few = omega arith; names = tt; ends = refl; calm = tt })
turn_fits n k (Link guess) a got pl calm lt hs = record { member = refl; shift = refl; order = tt; few = omega arith; names = tt; ends = refl; calm = tt }
turn_fits n k Wait a got pl calm lt hs =
    choose (λ u. TurnFits n k Wait (dmcs_turn k u)) (got == 0) (waits_at Wait) (if got == 1 then moves_to Settle else moves_to (Granted 0))
    (record { member = refl; shift = refl; order = tt; few = omega arith; names = tt; ends = refl; calm = tt })
    (choose (λ u. TurnFits n k Wait (dmcs_turn k u)) (got == 1) (moves_to Settle) (moves_to (Granted 0))
    (record { member = refl; shift = refl; order = (omega arith, tt); few = omega arith; names = (is_member n k lt, (tt, tt)); ends = refl; calm = tt })
    (record { member = refl; shift = refl; order = tt; few = omega arith; names = (tt, tt); ends = refl; calm = tt }))
turn_fits n k (Look left true) a got pl calm lt hs = absurd calm
turn_fits n k (Look left false) a got pl calm lt hs =
    choose (λ q. TurnFits n k (Look left false) (dmcs_turn k (moves_to q))) (got == 0) (Close left) (Hand (got - 1) left)
    (record { member = refl; shift = refl; order = tt; few = omega arith; names = tt; ends = refl; calm = tt })
    (record { member = refl; shift = refl; order = tt; few = omega arith; names = tt; ends = refl; calm = tt })
turn_fits n k (Close left) a got pl calm lt hs =
    choose (λ u. TurnFits n k (Close left) (dmcs_turn k u)) (got == k + 1) (moves_to Idle) (moves_to (Await left))
    (record { member = refl; shift = refl; order = tt; few = omega arith; names = tt; ends = refl; calm = tt })
    (record { member = refl; shift = refl; order = tt; few = omega arith; names = tt; ends = refl; calm = tt })
turn_fits n k (Await left) a got pl calm lt hs =
    choose (λ u. TurnFits n k (Await left) (dmcs_turn k u)) (got == 0) (waits_at (Await left)) (moves_to (Hand (got - 1) left))
    (record { member = refl; shift = refl; order = tt; few = omega arith; names = tt; ends = refl; calm = tt })
    (record { member = refl; shift = refl; order = tt; few = omega arith; names = tt; ends = refl; calm = tt })
turn_fits n k (Hand s left) a got pl calm lt hs =
    record { member = refl; shift = refl; order = tt; few = omega arith; names = (is_member n s (hs s left refl), tt); ends = refl; calm = tt }
turn_fits n k (Above s) a got pl calm lt hs = absurd calm
turn_fits n k _ a got pl calm lt hs = cc

-- entering changes nothing of whether a load has to be made again
pub enter_loads : (n : TheNames) (m : ℕ) (p : Phase) (es : List Event) (w : Bool) → PlansLoad (plan_at n m p) →
    PlansLoad (plan_at n (dmcs_enter m p es w).view.member (dmcs_enter m p es w).view.phase)
enter_loads n m Settle es w h = absurd h
enter_loads n m _ es w h = h

-- and waits where its turn does
pub enter_waits : (m : ℕ) (p : Phase) (es : List Event) (w : Bool) → (dmcs_enter m p es w).waits ≡ w
enter_waits m Idle es w = refl
enter_waits m _ es w = refl
