-- The shards so far are new, the rows have a seat at each, and the rooms are those of the other shards.
use Rattle.std.proofs.Common.{◌≡◌, ◌+◌, length, map, vec_items}
use Rattle.rl_ops.specs.Room.{AreRooms}
use Rattle.rl_run.specs.Runs.{AreNew, table_for}
use Rattle.rl_run.proofs.opening.open_all.Given as goal

abbrev pub invariant-loop-number : goal.invariant-loop-number
invariant-loop-number g l =
    (length l.shards.items ≡ l.number)
    × AreNew g.C.ShardCore.defined g.C.ShardCore.says (table_for l.shape l.knobs l.geom l.homes l.ops.by_rank) l.shards.items (map vec_items l.rows.items)
    × (length l.rooms.items + l.number ≡ l.geom.shards)
    × AreRooms l.geom l.ops.by_rank l.number l.rooms.items
