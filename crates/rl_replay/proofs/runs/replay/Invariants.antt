-- The turns so far were taken, from the start.
use Rattle.std.proofs.Common.{◌≡◌, length, take}
use Rattle.rl_step.specs.Answers.{steps_made}
use Rattle.rl_machine.specs.Running.{running}
use Rattle.rl_machine.specs.Run.{run_of, ranks_of_turns, steps_in}
use Rattle.rl_machine.specs.Start.{start_of}
use Rattle.rl_replay.specs.Rested.{AllRested}
use Rattle.rl_replay.proofs.runs.replay.Given as goal

abbrev pub invariant-loop-turn : goal.invariant-loop-turn
invariant-loop-turn g l =
    (running g.C.ShardCore.says l.machine ≡ run_of (start_of g.C.ShardCore.defined l.fn.shape l.fn.knobs l.fn.geom l.fn.homes l.fn.ops) (ranks_of_turns (take l.turn-index l.turns))) ×
    (steps_made l.machine.steps ≡ steps_in (take l.turn-index l.turns)) × (length l.machine.calls ≡ length l.fn.shape.node_of) ×
    (length l.rests.items ≡ length l.machine.calls) × AllRested g.C.Resting.with_sight (running g.C.ShardCore.says l.machine) l.rests.items
