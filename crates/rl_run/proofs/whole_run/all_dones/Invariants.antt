use Rattle.std.proofs.Common.{◌≡◌, map, take}
use Rattle.rl_run.proofs.WholeRun.{done_all}
use Rattle.rl_run.proofs.whole_run.all_dones.Given as goal

-- the ranks so far
abbrev pub invariant-loop-calls : goal.invariant-loop-calls
invariant-loop-calls l = l.dones.items ≡ map done_all (take l.calls-index l.ops.by_rank)
