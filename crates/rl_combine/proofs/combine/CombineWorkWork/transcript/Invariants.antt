-- What the rank keeps, and then its entries among those of the journal so far.
use Rattle.std.proofs.Common.{◌≡◌, ◌++◌, filter, take}
use Rattle.rl_combine.specs.Combine.{is_call}
use Rattle.rl_combine.proofs.combine.CombineWorkWork.transcript.Given as goal

abbrev pub invariant-loop-entry : goal.invariant-loop-entry
invariant-loop-entry l = l.entries.items ≡ l.fn.side.kept.items ++ filter (is_call l.fn.rank l.fn.side.seq) (take l.entry-index l.journal)
