use Rattle.std.proofs.Common.{◌≡◌, ◌++◌, take}
use Rattle.std.specs.List.{filter}
use Rattle.rl_journal.specs.Legal.{is_of}
use Rattle.rl_check.proofs.slots.push_own.Given as goal

abbrev pub invariant-loop-entry : goal.invariant-loop-entry
invariant-loop-entry l = l.own.items ≡ l.fn.own.items ++ filter (is_of l.rank) (take l.entry-index l.entries)
