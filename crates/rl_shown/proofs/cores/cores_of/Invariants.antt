-- the cores so far have the tables of the first shards, and the rooms are those of the others
use Rattle.std.proofs.Common.{◌≡◌, ◌+◌, length, map, take}
use Rattle.rl_ops.specs.Room.{AreRooms}
use Rattle.rl_place.specs.Shapes.{shape_of, knobs_of}
use Rattle.rl_machine.specs.Running.{ShardRun}
use Rattle.rl_machine.specs.Start.{first_shards}
use Rattle.rl_shown.proofs.cores.cores_of.Given as goal

abbrev pub invariant-loop-shard : goal.invariant-loop-shard
invariant-loop-shard g l =
    (map (λ k. (g.C.ShardCore.says k).table) l.cores.items ≡ map (λ (S : ShardRun _). S.table) (first_shards (λ home site. g.C.ShardCore.defined (shape_of l.place) home (knobs_of l.place.lock) site) (shape_of l.place).nodes l.place.geom l.ops.by_rank 0 (take l.shard l.place.homes)))
    × (length l.rooms.items + l.shard ≡ l.place.geom.shards) × AreRooms l.place.geom l.ops.by_rank l.shard l.rooms.items
