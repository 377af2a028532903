use Rattle.std.proofs.Common.{All, map, vec_items, vec_len, vec_capacity, ◌+◌, ◌≤◌}
use Rattle.std.specs.Vec.Iter.{into_iter_items, into_iter_len}
use Rattle.rl_run.specs.Rows.{IsGrid}
use Rattle.rl_run.specs.laws.RowLaws.{EndsSoFar}
use Rattle.rl_shard.specs.Shards.{IsShardOf}
use Rattle.rl_shard.specs.Ends.{IsEnd}
use Rattle.rl_run.specs.Runs.{IsShutSeat}
use Rattle.rl_run.proofs.closing.close_all.Given as goal

abbrev pub invariant-loop-shard : goal.invariant-loop-shard
invariant-loop-shard g l =
    All (IsShardOf g.C.ShardCore.says (vec_len l.left)) (into_iter_items l.shard-iterator)
    × IsGrid (IsShutSeat g.C.ShardCore.says) (into_iter_items l.shard-iterator) (map into_iter_items l.left.items)
    × EndsSoFar (IsEnd g.C.ShardCore.says) l.fn.shards.items (map vec_items l.fn.rows.items) (into_iter_items l.shard-iterator) (map into_iter_items l.left.items) l.ends.items
    × (into_iter_len l.shard-iterator + vec_len l.ends ≤ vec_capacity l.ends)
