use Rattle.std.proofs.Common.{◌≡◌, take}
use Rattle.rl_machine.specs.Running.{running}
use Rattle.rl_reporting.specs.Reported.{dones_from}
use Rattle.rl_reporting.proofs.reporting.dones_of.Given as goal

-- the ranks so far are told
abbrev pub invariant-loop-rank : goal.invariant-loop-rank
invariant-loop-rank g l = l.dones.items ≡ dones_from (running g.C.ShardCore.says l.machine) 0 (take l.rank l.machine.calls)
