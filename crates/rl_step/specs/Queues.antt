-- What traces say of a queue: who joined it, who was given it, how often it was passed, and the tenures of its members.
use Rattle.std.specs.Prelude.{◌≡◌, ℕ, ◌+◌, ◌-◌, ◌*◌, ◌<◌, ◌≤◌, ◌==◌, ◌&&◌, Bool, true, false, not, List, [], ◌∷◌, ◌++◌, if◌then◌else◌, Option}
use Rattle.rl_step.specs.declared.events.Event.{Event}
use Rattle.rl_step.specs.declared.events.Event.TheVariants.{Join, Pass, Settle, LeaveW}
use Rattle.rl_step.specs.declared.tallies.Tally.{Tally}

-- a queue of a lock: its members, which are ranks, or elements that have the queues of their numbers; and its budget
pub record QueueOf : Type 0 where
  pub members : ℕ → Bool
  pub of_ranks : Bool
  pub budget : Option ℕ

abbrev pub count : Bool → ℕ
count true = 1
count false = 0

-- one's item, or nothing
abbrev pub alone_if : Bool → ℕ → List ℕ
alone_if true m = m ∷ []
alone_if false m = []

-- the member that an event lets join the queue, and the one that it gives the queue to
abbrev pub joins : ℕ → Event → List ℕ
joins q (Join k m) = alone_if (k == q) m
joins q _ = []

abbrev pub gives : ℕ → Event → List ℕ
gives q (Pass k m) = alone_if (k == q) m
gives q (Settle k m) = alone_if (k == q) m
gives q _ = []

-- the members that joined the queue, in order, and those that were given it
abbrev pub joined : ℕ → List Event → List ℕ
joined q [] = []
joined q (e ∷ t) = joins q e ++ joined q t

abbrev pub given : ℕ → List Event → List ℕ
given q [] = []
given q (e ∷ t) = gives q e ++ given q t

-- first come, first served: who was given the queue is a beginning of who joined it, in the same order
pub record IsFifo (t : List Event) (q : ℕ) : Type 0 where
  pub waiting : List ℕ
  pub in_order : joined q t ≡ given q t ++ waiting

-- how often an event settles the queue, and passes it
abbrev pub settles : ℕ → Event → ℕ
settles q (Settle k m) = count (k == q)
settles q _ = 0

abbrev pub passes : ℕ → Event → ℕ
passes q (Pass k m) = count (k == q)
passes q _ = 0

-- how often the trace settles the queue, and passes it
abbrev pub settled : ℕ → List Event → ℕ
settled q [] = 0
settled q (e ∷ t) = settles q e + settled q t

abbrev pub passed : ℕ → List Event → ℕ
passed q [] = 0
passed q (e ∷ t) = passes q e + passed q t

-- The pass budget: any stretch of the trace in which the queue isn't settled passes it at most so often, and a beginning of
-- the trace in which it isn't settled never passes it.
pub record IsWithin (t : List Event) (q budget : ℕ) : Type 0 where
  pub stretch : (p u s : List Event) → t ≡ p ++ (u ++ s) → settled q u ≡ 0 → passed q u ≤ budget
  pub beginning : (u s : List Event) → t ≡ u ++ s → settled q u ≡ 0 → passed q u ≡ 0

-- the queue's tally, and the budget in it
abbrev pub tally_of : ℕ → List Event → Tally
tally_of q t = record { settled = settled q t; passed = passed q t }

abbrev pub IsWithinBudget : Tally → ℕ → Type 0
IsWithinBudget tally budget = tally.passed ≤ budget * tally.settled

-- the tenures of a queue that an event ends: of ranks, the departure of a writer among its members; of elements, the
-- settlement of a member's own queue
abbrev pub ends : QueueOf → Event → ℕ
ends d (LeaveW k) = count (d.of_ranks && d.members k)
ends d (Settle k m) = count (not d.of_ranks && d.members k)
ends d _ = 0

abbrev pub tenures : QueueOf → List Event → ℕ
tenures d [] = 0
tenures d (e ∷ t) = ends d e + tenures d t

-- Below is the pass budget along the trace, event by event; QueueLemmas shows that it says the same.

-- how many more passes may come before the next settlement: the budget after a settlement, one less after a pass
abbrev pub room_after : ℕ → ℕ → Event → ℕ → ℕ
room_after q B (Pass k m) room = if k == q then room - 1 else room
room_after q B (Settle k m) room = if k == q then B else room
room_after q B _ room = room

-- no pass comes where none may
abbrev pub PassFits : ℕ → Event → ℕ → Type 0
PassFits q (Pass k m) room = k ≡ q → 0 < room
PassFits q _ room = Unit {0}

abbrev pub WithinFrom : ℕ → ℕ → ℕ → List Event → Type 0
WithinFrom q B room [] = Unit {0}
WithinFrom q B room (e ∷ t) = PassFits q e room × WithinFrom q B (room_after q B e room) t

-- the room that the trace leaves
abbrev pub room_of : ℕ → ℕ → ℕ → List Event → ℕ
room_of q B room [] = room
room_of q B room (e ∷ t) = room_of q B (room_after q B e room) t
