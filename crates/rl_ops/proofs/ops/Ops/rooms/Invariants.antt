-- The rooms so far are those of the first shards.
use Rattle.std.proofs.Common.{◌≡◌, length}
use Rattle.rl_ops.specs.Room.{AreRooms}
use Rattle.rl_ops.proofs.ops.Ops.rooms.Given as goal

abbrev pub invariant-loop-shard : goal.invariant-loop-shard
invariant-loop-shard l = record {
  all : length l.rooms.items ≡ l.shard;
  each : AreRooms l.fn.geom l.self.by_rank 0 l.rooms.items;
}
