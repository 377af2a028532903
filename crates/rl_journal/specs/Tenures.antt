-- What the tallies of a shard's queues say beside its history, while no block is open.
use Rattle.std.specs.Prelude.{◌≡◌, ℕ, ◌+◌, ◌&&◌, Bool, List, length, count_by, get_or, if◌then◌else◌, slice_get, Some}
use Rattle.rl_model.specs.Table.{sum_below}
use Rattle.rl_model.specs.declared.entry.Entry.{Entry}
use Rattle.rl_step.specs.declared.tallies.Tally.{Tally}
use Rattle.rl_step.specs.Queues.{QueueOf, IsWithinBudget}
use Rattle.rl_journal.specs.Blocks.{is_tenure}

-- the tally of a queue; one that isn't there was never settled or passed
abbrev pub no_tally : Tally
no_tally = record { settled = 0; passed = 0 }

abbrev pub tally_at : ℕ → List Tally → Tally
tally_at q tallies = get_or tallies q no_tally

-- the entry begins a tenure of a member of the queue
abbrev pub is_had_by : QueueOf → Bool → Entry → Bool
is_had_by queue spares e = queue.members e.rank && is_tenure spares e

-- how often an element's queue was settled, if the element is a member
abbrev pub settled_if : (ℕ → Bool) → List Tally → ℕ → ℕ
settled_if members tallies m = if members m then (tally_at m tallies).settled else 0

-- The tenures of a queue. Those of a queue of ranks are told by the history: each block of a member is one, and where gets are
-- spared, each but a get. Those of a queue of elements are the settlements of the members' queues.
abbrev pub tenures_of : Bool → List Entry → List Tally → QueueOf → ℕ
tenures_of spares history tallies queue =
    if queue.of_ranks then count_by (is_had_by queue spares) history else sum_below (settled_if queue.members tallies) (length tallies)

-- there is a tally for each queue; a queue with a budget was passed at most so often for each settlement; and each queue was settled and
-- passed as often as it was had
pub record AreTallied (queues : List QueueOf) (spares : Bool) (history : List Entry) (tallies : List Tally) : Type 0 where
  pub each : length tallies ≡ length queues
  pub budgets : (q budget : ℕ) (d : QueueOf) → slice_get queues q ≡ Some d → d.budget ≡ Some budget → IsWithinBudget (tally_at q tallies) budget
  pub tenures : (q : ℕ) (d : QueueOf) → slice_get queues q ≡ Some d →
      (tally_at q tallies).settled + (tally_at q tallies).passed ≡ tenures_of spares history tallies d
