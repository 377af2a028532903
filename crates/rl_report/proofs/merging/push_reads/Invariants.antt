use Rattle.std.proofs.Common.{◌≡◌, ◌++◌, take, filter}
use Rattle.rl_report.specs.Merging.{is_read, seen}
use Rattle.rl_report.proofs.merging.push_reads.Given as goal

-- the gets and holds so far stand
abbrev pub invariant-loop-entry : goal.invariant-loop-entry
invariant-loop-entry l = seen l.reads.items ≡ seen l.fn.reads.items ++ filter is_read (take l.entry-index l.transcript)
