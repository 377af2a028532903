-- A rank's own tallies of the queues: how often its acts settled and passed each.
use Rattle.std.specs.Prelude.{ℕ, ◌+◌, ◌-◌, ◌^◌, List, min, fold, slice_set}
use Rattle.rl_step.specs.declared.events.Event.{Event}
use Rattle.rl_step.specs.declared.events.Event.TheVariants.{Pass, Settle}
use Rattle.rl_step.specs.declared.tallies.Tally.{Tally}
pub use Rattle.rl_journal.specs.Tenures.{no_tally, tally_at}

-- the greatest number of a count, at which it stands still
abbrev pub full : ℕ
full = 2 ^ 64 - 1

-- one more, where there is a number for it
abbrev pub raised : ℕ → ℕ
raised n = min (n + 1) full

-- the tally after one more settlement, and after one more pass
abbrev pub settled_once : Tally → Tally
settled_once t = record { settled = raised t.settled; passed = t.passed }

abbrev pub passed_once : Tally → Tally
passed_once t = record { settled = t.settled; passed = raised t.passed }

-- the tallies after an event: a settlement and a pass count for their queue
abbrev pub noted : Event → List Tally → List Tally
noted (Settle q m) tallies = slice_set tallies q (settled_once (tally_at q tallies))
noted (Pass q m) tallies = slice_set tallies q (passed_once (tally_at q tallies))
noted _ tallies = tallies

-- the tallies after some events
abbrev pub all_noted : List Event → List Tally → List Tally
all_noted es tallies = fold (λ t e. noted e t) tallies es
