-- No rank so far.
use Rattle.rl_machine.specs.GoesNext.{NoneHas}
use Rattle.rl_machine.specs.Run.{opens}
use Rattle.rl_machine.specs.State.{running_machine}
use Rattle.rl_machine.proofs.state.MachineState.first_to_open.Given as goal

abbrev pub invariant-loop-rank : goal.invariant-loop-rank
invariant-loop-rank g l = NoneHas (opens (running_machine g.C.ShardCore.says l.self)) l.rank
