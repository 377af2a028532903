-- So many steps of the rank were taken.
use Rattle.std.proofs.Common.{◌≡◌, length, replicate}
use Rattle.rl_machine.specs.Running.{running, cores_of}
use Rattle.rl_machine.specs.Run.{run_of}
use Rattle.rl_replay.specs.Rested.{AllRested}
use Rattle.rl_replay.proofs.runs.take_steps.Given as goal

abbrev pub invariant-loop-made : goal.invariant-loop-made
invariant-loop-made g l =
    (cores_of l.machine ≡ cores_of l.fn.machine) × (running g.C.ShardCore.says l.machine ≡ run_of (running g.C.ShardCore.says l.fn.machine) (replicate l.made l.rank)) ×
    (length l.rests.items ≡ length l.fn.rests.items) × AllRested g.C.Resting.with_sight (running g.C.ShardCore.says l.machine) l.rests.items
