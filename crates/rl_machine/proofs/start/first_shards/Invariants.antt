-- The shards so far are the first ones of the start, and the rooms are those of the others.
use Rattle.std.proofs.Common.{◌≡◌, ◌+◌, length, take}
use Rattle.rl_word.specs.Shapes.{layout_of}
use Rattle.rl_ops.specs.Room.{AreRooms}
use Rattle.rl_machine.specs.Cores.{EachSits, EachHandsOn}
use Rattle.rl_machine.specs.Start.{first_shards}
use Rattle.rl_machine.specs.State.{running_shards, cores_in}
use Rattle.rl_machine.proofs.start.first_shards.Given as goal

abbrev pub invariant-loop-shard : goal.invariant-loop-shard
invariant-loop-shard g l =
    (running_shards g.C.ShardCore.says l.shards.items ≡ first_shards (λ home site. g.C.ShardCore.defined l.shape home l.knobs site) l.shape.nodes l.geom l.ops.by_rank 0 (take l.shard l.homes)) ×
    (length l.shards.items ≡ l.shard) ×
    EachHandsOn g.C.ShardCore.says g.C.ShardCore.promised l.shape l.knobs l.homes (cores_in l.shards.items) ×
    EachSits g.C.ShardCore.says (layout_of l.shape) l.homes (cores_in l.shards.items) ×
    (length l.rooms.items + l.shard ≡ l.geom.shards) ×
    AreRooms l.geom l.ops.by_rank l.shard l.rooms.items
