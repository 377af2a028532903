-- What entering adds to a turn, and that no turn leads to where something is above the queue.
use Rattle.std.specs.Prelude.{ℕ, ◌+◌, ◌-◌, ◌==◌, true, false, List, [], ◌∷◌, if◌then◌else◌, Option, Some, None}
use Rattle.rl_step.specs.declared.events.Event.{Event}
use Rattle.rl_step.specs.declared.events.Event.TheVariants as event
use Rattle.rl_queue.specs.declared.view.Phase.{Phase}
use Rattle.rl_queue.specs.declared.view.Phase.TheVariants.{Idle, Swing, Link, Wait, Settle, Granted, Look, Close, Await, Hand, Above}
use Rattle.rl_queue.specs.laws.Choices.{choose}
use Rattle.rl_queue.specs.Queue.{TheNames, code_left, moves_to, moves_with, waits_at, joined_at, hand_turn, turn_at}
use Rattle.rl_alock.specs.Alock.{entry_events}
use Rattle.rl_alock.specs.AlockGood.{Flat}

-- what holds of no event and of an entry holds of what entering adds
pub entry_all : (P : List Event → Type 0) (m : ℕ) (p : Phase) → P [] → P (event.EnterW m ∷ []) → P (entry_events m p)
entry_all P m (Granted left) a b = b
entry_all P m _ a b = a

-- no turn leads to where something is above the queue
flat_joined : (guess : ℕ) → Flat (joined_at guess)
flat_joined guess = choose Flat (guess == 0) Settle (Link guess) tt tt

flat_hand : (q : ℕ) (B : Option ℕ) (s left : ℕ) → Flat (hand_turn q B s left).phase
flat_hand q None s left = tt
flat_hand q (Some b) s left = choose (λ z. Flat z.phase) (left == 0) (moves_to Idle) (moves_with Idle (event.Pass q s)) tt tt

pub turn_flat : (n : TheNames) (m : ℕ) (p : Phase) (got : ℕ) → Flat p → Flat (turn_at n m p got).phase
turn_flat n m (Swing guess) got f = choose (λ z. Flat z.phase) (got == guess) (moves_with (joined_at guess) (event.Join n.queue m))
    (moves_to (Swing got)) (flat_joined guess) tt
turn_flat n m Wait got f =
    choose (λ z. Flat z.phase) (got == 0) (waits_at Wait) (if got == 1 then moves_to Settle else moves_to (Granted (code_left n.budget got))) tt
    (choose (λ z. Flat z.phase) (got == 1) (moves_to Settle) (moves_to (Granted (code_left n.budget got))) tt tt)
turn_flat n m (Look left true) got f = absurd f
turn_flat n m (Look left false) got f = choose Flat (got == 0) (Close left) (Hand (got - 1) left) tt tt
turn_flat n m (Close left) got f = choose (λ z. Flat z.phase) (got == m + 1) (moves_to Idle) (moves_to (Await left)) tt tt
turn_flat n m (Await left) got f = choose (λ z. Flat z.phase) (got == 0) (waits_at (Await left)) (moves_to (Hand (got - 1) left)) tt tt
turn_flat n m (Hand succ left) got f = flat_hand n.queue n.budget succ left
turn_flat n m (Above succ) got f = absurd f
turn_flat n m _ got f = tt
