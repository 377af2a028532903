-- The queues that the code's value tells.
use Rattle.std.specs.Prelude.{◌≡◌, ℕ, List, slice_get, Option, Some}
use Rattle.rl_step.specs.Queues.{QueueOf}
use Rattle.rl_step.specs.LockQueues.{queues_of_kind}
use Rattle.rl_check.specs.Tallying.{queue_in}
use Rattle.rl_check.specs.declared.queues.Queues.{Queues}

abbrev pub queue_of : Queues → ℕ → QueueOf
queue_of queues q = queue_in queues.facts.queues queues.shape.now queues.home queues.knobs q

abbrev pub queues_all : Queues → List QueueOf
queues_all queues = queues_of_kind queues.facts.queues queues.shape.now queues.home queues.knobs

-- these are their budgets, as far as they go
abbrev pub AreBudgetsOf : Queues → List (Option ℕ) → Type 0
AreBudgetsOf queues budgets = (q : ℕ) (o : Option ℕ) → slice_get budgets q ≡ Some o → o ≡ (queue_of queues q).budget
