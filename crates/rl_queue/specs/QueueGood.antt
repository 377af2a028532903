-- What is true of a queue over any words whose names give each member words of its own, and what an act of one member keeps of it.
use Rattle.std.specs.Prelude.{◌≡◌, ◌≢◌, ℕ, ◌<◌, List, ◌++◌, slice_index, slice_set}
use Rattle.rl_step.specs.declared.events.Event.{Event}
use Rattle.rl_queue.specs.declared.view.Phase.{Phase}
use Rattle.rl_queue.specs.Queue.{TheNames, queue_next_word, status_word, turn_at}
use Rattle.rl_queue.specs.Lane.{lane_of, LaneGood, LineStep}
use Rattle.rl_word.specs.Acts.{word_of, written, told}
use Rattle.rl_word.specs.declared.acts.Act.{Act}

-- the words of a queue's members are there, and no two of them are one
pub record IsNaming (n : TheNames) (In : ℕ → Type 0) (size : ℕ) : Type 0 where
  pub tail_there : n.tail < size
  pub next_there : (m : ℕ) → In m → queue_next_word n m < size
  pub status_there : (m : ℕ) → In m → status_word n m < size
  pub next_tail : (m : ℕ) → In m → queue_next_word n m ≢ n.tail
  pub status_tail : (m : ℕ) → In m → status_word n m ≢ n.tail
  pub next_once : (m k : ℕ) → In m → In k → queue_next_word n m ≡ queue_next_word n k → m ≡ k
  pub status_once : (m k : ℕ) → In m → In k → status_word n m ≡ status_word n k → m ≡ k
  pub next_status : (m k : ℕ) → In m → In k → queue_next_word n m ≢ status_word n k

-- member m goes from phase p to phase p', and no other member moves
pub record Moves (ph ph' : ℕ → Phase) (m : ℕ) (p p' : Phase) : Type 0 where
  pub was : ph m ≡ p
  pub now : ph' m ≡ p'
  pub others : (x : ℕ) → x ≢ m → ph' x ≡ ph x

module _ (n : TheNames) (In : ℕ → Type 0) where
  -- the queue is good in the words ws, with the phases ph and the line l, after the trace t, in which e tenures ended
  abbrev pub QueueGood : List ℕ → (ℕ → Phase) → List ℕ → List Event → ℕ → Type 0
  QueueGood ws ph l t e = LaneGood n.queue n.budget In (lane_of n ws ph) l t e

module _ (n : TheNames) (In : ℕ → Type 0) where
  -- the queue after a move of member m from phase p to phase q, where the line was l
  abbrev pub QueueGoes : ℕ → Phase → Phase → List ℕ → List ℕ → (ℕ → Phase) → List Event → ℕ → Type 0
  QueueGoes m p q l ws ph t e = (k : List ℕ) × QueueGood n In ws ph k t e × LineStep m p q l k

module _ (n : TheNames) (In : ℕ → Type 0) where
  -- member m, in phase p, makes the act a, as one step
  abbrev pub ActMoves : List ℕ → (ℕ → Phase) → (ℕ → Phase) → ℕ → Phase → Act → Type 0
  ActMoves ws ph ph' m p a = Moves ph ph' m p (turn_at n m p (told a (slice_index ws (word_of a)))).phase

  -- and the queue is good after it, with the events of the act at the end of the trace
  abbrev pub ActGoes : List ℕ → List ℕ → (ℕ → Phase) → List Event → ℕ → ℕ → Phase → Act → Type 0
  ActGoes l ws ph' t e m p a =
      QueueGoes n In m p (turn_at n m p (told a (slice_index ws (word_of a)))).phase l
      (slice_set ws (word_of a) (written a (slice_index ws (word_of a)))) ph'
      (t ++ (turn_at n m p (told a (slice_index ws (word_of a)))).events) e
