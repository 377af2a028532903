-- The tallies of queues by number, from what happened.
use Rattle.std.specs.Prelude.{ℕ, zero, suc, ◌+◌, List, [], ◌∷◌, Option, Some, None}
use Rattle.rl_step.specs.declared.events.Event.{Event}
use Rattle.rl_step.specs.declared.events.Event.TheVariants.{Pass, Settle}
use Rattle.rl_step.specs.declared.tallies.Tally.{Tally}
use Rattle.rl_step.specs.Queues.{tally_of}

-- the tallies of n queues from one on
abbrev pub tallies_from : ℕ → ℕ → List Event → List Tally
tallies_from q zero trace = []
tallies_from q (suc n) trace = tally_of q trace ∷ tallies_from (q + 1) n trace

-- the queue that an event counts for, and what it counts
abbrev pub counts_for : Event → Option (ℕ × Tally)
counts_for (Settle q m) = Some (q, record { settled = 1; passed = 0 })
counts_for (Pass q m) = Some (q, record { settled = 0; passed = 1 })
counts_for _ = None
