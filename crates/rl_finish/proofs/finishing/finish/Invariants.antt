-- A way on so far: as many steps as turns of the loop, each of which left less to do.
use Rattle.std.proofs.Common.{◌≡◌, ◌+◌, ◌≤◌, length}
use Rattle.std.specs.List.{AllByRecursion}
use Rattle.rl_step.specs.Answers.{steps_made}
use Rattle.rl_ops.specs.Schedule.{TurnFits}
use Rattle.rl_machine.specs.MachineEnding.{machine_left}
use Rattle.rl_machine.specs.Run.{run_of, ranks_of_turns, steps_in}
use Rattle.rl_machine.specs.Running.{running, cores_of}
use Rattle.rl_finish.specs.WayOn.{IsWayOn, AreWhole}
use Rattle.rl_finish.proofs.finishing.finish.Given as goal

abbrev pub invariant-loop : goal.invariant-loop
invariant-loop g l =
    (cores_of l.machine ≡ cores_of l.fn.machine) × (l.machine.calls ≡ l.fn.machine.calls) ×
    (running g.C.ShardCore.says l.machine ≡ run_of (running g.C.ShardCore.says l.fn.machine) (ranks_of_turns l.turns.items)) ×
    IsWayOn g.C.ShardGuiding.urgent (cores_of l.fn.machine) (running g.C.ShardCore.says l.fn.machine)
    (ranks_of_turns l.turns.items) × AllByRecursion (TurnFits (length l.fn.machine.calls)) l.turns.items ×
    AreWhole l.turns.items × (steps_made l.machine.steps ≡ steps_made l.fn.machine.steps + l.counter) × (steps_in l.turns.items ≡ l.counter) ×
    (machine_left g.C.ShardEnding.left g.C.ShardEnding.most (cores_of l.machine) (running g.C.ShardCore.says l.machine) + l.counter ≤ machine_left g.C.ShardEnding.left g.C.ShardEnding.most
    (cores_of l.fn.machine) (running g.C.ShardCore.says l.fn.machine))
