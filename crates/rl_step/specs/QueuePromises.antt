-- What is promised of the queues of a lock, over a trace.
use Rattle.std.specs.Prelude.{◌≡◌, ℕ, ◌+◌, List, slice_get, Some}
use Rattle.rl_step.specs.declared.events.Event.{Event}
use Rattle.rl_step.specs.Queues.{QueueOf, IsWithin, IsFifo, IsWithinBudget, tally_of, settled, passed, tenures}

-- each queue with a budget keeps it between settlements
abbrev pub KeepBudgets : List QueueOf → List Event → Type 0
KeepBudgets queues t = (q budget : ℕ) (queue : QueueOf) → slice_get queues q ≡ Some queue → queue.budget ≡ Some budget → IsWithin t q budget

-- and in all: it was passed at most so often for each settlement
abbrev pub KeepTotals : List QueueOf → List Event → Type 0
KeepTotals queues t = (q budget : ℕ) (queue : QueueOf) → slice_get queues q ≡ Some queue → queue.budget ≡ Some budget → IsWithinBudget (tally_of q t) budget

-- each queue serves first who came first
abbrev pub ServeInOrder : List QueueOf → List Event → Type 0
ServeInOrder queues t = (q : ℕ) (queue : QueueOf) → slice_get queues q ≡ Some queue → IsFifo t q

-- what is promised at every moment
pub record KeepQueues (queues : List QueueOf) (t : List Event) : Type 0 where
  pub budgets : KeepBudgets queues t
  pub totals : KeepTotals queues t
  pub order : ServeInOrder queues t

-- and while no call is open: each queue was settled and passed as often as it was had
abbrev pub CountTenures : List QueueOf → List Event → Type 0
CountTenures queues t = (q : ℕ) (queue : QueueOf) → slice_get queues q ≡ Some queue → settled q t + passed q t ≡ tenures queue t
