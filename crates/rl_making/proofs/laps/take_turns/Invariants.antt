-- The ranks so far have taken their turns, what is noted of each rank is true, and so many steps are left.
use Rattle.std.proofs.Common.{◌≡◌, ◌-◌, length}
use Rattle.rl_step.specs.Answers.{steps_made}
use Rattle.rl_machine.specs.Running.{running}
use Rattle.rl_replay.specs.Rested.{AllRested}
use Rattle.rl_making.specs.Laps.{turns}
use Rattle.rl_making.proofs.laps.take_turns.Given as goal

abbrev pub invariant-loop-rank : goal.invariant-loop-rank
invariant-loop-rank g l =
    (running g.C.ShardCore.says l.machine ≡ turns l.most (running g.C.ShardCore.says l.fn.machine) l.rank)
    × (length l.rests.items ≡ length l.fn.rests.items)
    × AllRested g.C.Resting.with_sight (running g.C.ShardCore.says l.machine) l.rests.items
    × (l.left ≡ l.most - steps_made l.machine.steps)
