use Rattle.std.proofs.Common.{◌≡◌, false}
use Rattle.rl_machine.specs.Running.{running}
use Rattle.rl_making.specs.Laps.{any_has_work}
use Rattle.rl_making.proofs.laps.any_has_work.Given as goal

-- none so far has work
abbrev pub invariant-loop-rank : goal.invariant-loop-rank
invariant-loop-rank g l = any_has_work (running g.C.ShardCore.says l.machine) l.rank ≡ false
