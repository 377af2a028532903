-- Each act that gets its member on makes the numbers of the phases fall.
use Rattle.std.specs.Prelude.{◌+◌, ◌-◌, ◌<◌, ◌==◌, ℕ, Bool, true, false, if◌then◌else◌, Option, Some, None}
use Rattle.std.proofs.Common.{sym, ap, subst, ⊎_elim}
use Rattle.std.proofs.lemmas.Bool.Decides.{eqb_tells}
use Rattle.rl_step.specs.declared.events.Event.TheVariants as event
use Rattle.rl_queue.specs.declared.view.Phase.{Phase}
use Rattle.rl_queue.specs.declared.view.Phase.TheVariants.{Idle, Clear, Reset, Swing, Link, Wait, Settle, Granted, Look, Close, Await, Hand, Above}
use Rattle.rl_queue.specs.laws.Choices.{choose}
use Rattle.rl_queue.specs.Queue.{TheNames, code_left, moves_to, moves_with, waits_at, joined_at, look_at, hand_turn, turn_at}
use Rattle.rl_queue.specs.laws.Stuck.{GetsOn, Falls}

module _ (far after : Phase → ℕ) (falls : Falls far after) where
  hand_falls : (q succ left : ℕ) (budget : Option ℕ) → after (hand_turn q budget succ left).phase < far (Hand succ left)
  hand_falls q succ left None = falls.hand succ left
  hand_falls q succ left (Some b) = choose (λ t. after t.phase < far (Hand succ left)) (left == 0) (moves_to Idle)
      (moves_with Idle (event.Pass q succ)) (falls.hand succ left) (falls.hand succ left)

  look_falls : (left got : ℕ) (upper : Bool) → after (look_at left upper got) < far (Look left upper)
  look_falls left got false = choose (λ p. after p < far (Look left false)) (got == 0) (Close left) (Hand (got - 1) left)
      (falls.look left 0 false).0 (falls.look left (got - 1) false).1
  look_falls left got true =
      choose (λ p. after p < far (Look left true)) (got == 0) (Above None)
      (if left == 0 then Above (Some (got - 1)) else Hand (got - 1) left) (falls.gives_up left None)
      (choose (λ p. after p < far (Look left true)) (left == 0) (Above (Some (got - 1))) (Hand (got - 1) left)
      (falls.gives_up left (Some (got - 1))) (falls.look left (got - 1) true).1)

  pub turn_falls : (n : TheNames) (m : ℕ) (p : Phase) (got : ℕ) → GetsOn p got → after (turn_at n m p got).phase < far p
  turn_falls n m Clear got gets = falls.clear
  turn_falls n m Reset got gets = falls.reset
  turn_falls n m (Swing guess) got gets =
      ⊎_elim
      (λ q. subst (λ t. after t.phase < far (Swing guess)) (sym
      (ap (λ b. if b then moves_with (joined_at guess) (event.Join n.queue m) else moves_to (Swing got)) q.0))
      (choose (λ p. after p < far (Swing guess)) (guess == 0) Settle (Link guess) (falls.swing guess).0 (falls.swing guess).1))
      (λ q. absurd (q.1 gets))
      (eqb_tells got guess)
  turn_falls n m (Link guess) got gets = falls.link guess
  turn_falls n m Wait got gets =
      ⊎_elim
      (λ q. absurd (gets q.1))
      (λ q. subst (λ t. after t.phase < far Wait)
      (sym (ap (λ b. if b then waits_at Wait else if got == 1 then moves_to Settle else moves_to (Granted (code_left n.budget got)))
      q.0))
      (choose (λ t. after t.phase < far Wait) (got == 1) (moves_to Settle) (moves_to (Granted (code_left n.budget got))) (falls.wait 0).0
      (falls.wait (code_left n.budget got)).1))
      (eqb_tells got 0)
  turn_falls n m (Look left upper) got gets = look_falls left got upper
  turn_falls n m (Close left) got gets = choose (λ t. after t.phase < far (Close left)) (got == m + 1) (moves_to Idle)
      (moves_to (Await left)) (falls.close left).0 (falls.close left).1
  turn_falls n m (Await left) got gets =
      ⊎_elim
      (λ q. absurd (gets q.1))
      (λ q. subst (λ t. after t.phase < far (Await left))
      (sym (ap (λ b. if b then waits_at (Await left) else moves_to (Hand (got - 1) left)) q.0)) (falls.await left (got - 1)))
      (eqb_tells got 0)
  turn_falls n m (Hand succ left) got gets = hand_falls n.queue succ left n.budget
  turn_falls n m Idle got gets = absurd gets
  turn_falls n m Settle got gets = absurd gets
  turn_falls n m (Granted left) got gets = absurd gets
  turn_falls n m (Above succ) got gets = absurd gets
