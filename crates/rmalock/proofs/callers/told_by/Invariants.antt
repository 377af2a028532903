-- Each caller may go on.
use Rattle.rl_run.specs.Runs.{AreCallers}
use Rattle.rmalock.proofs.callers.told_by.Given as goal

abbrev pub invariant-loop-digit : goal.invariant-loop-digit
invariant-loop-digit g l = AreCallers g.C.ShardCore.says l.shared l.callers.items
