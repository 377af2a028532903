-- No rank so far.
use Rattle.rl_machine.specs.GoesNext.{NoneHas}
use Rattle.rl_machine.specs.Run.{has_open_call}
use Rattle.rl_machine.specs.State.{running_machine}
use Rattle.rl_machine.proofs.state.MachineState.first_open.Given as goal

abbrev pub invariant-loop-rank : goal.invariant-loop-rank
invariant-loop-rank g l = NoneHas (has_open_call (running_machine g.C.ShardCore.says l.self)) l.rank
