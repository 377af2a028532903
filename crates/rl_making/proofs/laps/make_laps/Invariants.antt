use Rattle.std.proofs.Common.{◌≡◌, length}
use Rattle.rl_machine.specs.Running.{running}
use Rattle.rl_replay.specs.Rested.{AllRested}
use Rattle.rl_making.specs.Laps.{laps}
use Rattle.rl_making.proofs.laps.make_laps.Given as goal

-- so many laps were made, and what is noted of each rank is true
abbrev pub invariant-loop : goal.invariant-loop
invariant-loop g l =
    (running g.C.ShardCore.says l.machine ≡ laps l.most (running g.C.ShardCore.says l.fn.machine) l.counter)
    × (length l.rests.items ≡ length l.fn.machine.calls)
    × AllRested g.C.Resting.with_sight (running g.C.ShardCore.says l.machine) l.rests.items
