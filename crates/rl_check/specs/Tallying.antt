-- The queues of a kind, each by its number, and what is counted of one.
use Rattle.std.specs.Prelude.{◌≡◌, ℕ, ◌+◌, ◌==◌, Bool, List, length, Some, if◌then◌else◌}
use Rattle.rl_word.specs.declared.locks.QueueKind.{QueueKind}
use Rattle.rl_word.specs.declared.locks.QueueKind.TheVariants.{NoQueue, OneForAll, TwoCohorts, Elements}
use Rattle.rl_word.specs.declared.shapes.Knobs.{Knobs}
use Rattle.rl_word.specs.Shapes.{TheShape}
use Rattle.rl_model.specs.declared.entry.Entry.{Entry}
use Rattle.rl_step.specs.declared.tallies.Tally.{Tally}
use Rattle.rl_step.specs.Queues.{QueueOf, IsWithinBudget}
use Rattle.rl_step.specs.LockQueues.{all_ranks, cohort_queue, element_queue, root_budget}
use Rattle.rl_journal.specs.Tenures.{tally_at, tenures_of}

-- a cohort's queue: the first is the local one
abbrev pub cohort_in : TheShape → ℕ → Knobs → ℕ → QueueOf
cohort_in shape home knobs q = cohort_queue home shape.node_of (q == 0) (if q == 0 then knobs.local else knobs.remote)

-- the queue with this number; of a number that no queue has nothing is said
abbrev pub queue_in : QueueKind → TheShape → ℕ → Knobs → ℕ → QueueOf
queue_in NoQueue shape home knobs q = all_ranks 0
queue_in OneForAll shape home knobs q = all_ranks (length shape.node_of)
queue_in TwoCohorts shape home knobs q = cohort_in shape home knobs q
queue_in (Elements root) shape home knobs q = element_queue shape (root_budget root knobs) q

-- the budget is kept in all, and the queue was settled and passed as often as it was had
pub record IsTallied (spares : Bool) (entries : List Entry) (tallies : List Tally) (q : ℕ) (d : QueueOf) : Type 0 where
  pub budget : (B : ℕ) → d.budget ≡ Some B → IsWithinBudget (tally_at q tallies) B
  pub tenures : (tally_at q tallies).settled + (tally_at q tallies).passed ≡ tenures_of spares entries tallies d
