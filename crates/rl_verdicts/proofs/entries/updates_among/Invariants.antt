use Rattle.std.proofs.Common.{◌≡◌, take}
use Rattle.std.specs.List.{count_by}
use Rattle.rl_journal.specs.Legal.{updates}
use Rattle.rl_verdicts.proofs.entries.updates_among.Given as goal

abbrev pub invariant-loop-entry : goal.invariant-loop-entry
invariant-loop-entry l = l.count ≡ count_by updates (take l.entry-index l.entries)
