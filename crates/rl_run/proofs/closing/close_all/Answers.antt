use Rattle.std.proofs.Common.{rules, vec_items, vec_len, map}
use Rattle.std.specs.Vec.Iter.{into_iter_items}
use Rattle.rl_shard.specs.Shards.{IsShardOf}
use Rattle.rl_shard.specs.Ends.{IsEnd}
use Rattle.rl_run.specs.Runs.{IsShutSeat}
use Rattle.rl_run.proofs.OneByOne.{first_rooted, column_rooted, column_seats, others_rooted, others_grid, goes_more, goes_all}
use Rattle.rl_run.proofs.closing.close_all.Goals as goal

pub loop-shard-init : goal.loop-shard-init
loop-shard-init g c =
    let all = c.into_iter-shard-iterator.ensures.into_iter_gives.0 in
    rw (all, c.in_ok-left.ensures, c.in_ok-ends.ensures.items) (
      first_rooted vec_items into_iter_items (IsShardOf g.C.ShardCore.says) c.args.shards.items c.args.rows.items c.in_ok-left.left.items (vec_len c.args.rows) (vec_len c.in_ok-left.left) c.requires.rooted (search rules) (search rules) c.in_ok-left.ensures,
      c.requires.grid,
      λ es ends. ends,
      search rules,
    )

pub close_one-requires-clause-rooted : goal.close_one-requires-clause-rooted
close_one-requires-clause-rooted g c =
    column_rooted into_iter_items (IsShutSeat g.C.ShardCore.says) (IsShardOf g.C.ShardCore.says) (IsEnd g.C.ShardCore.says) (into_iter_items c.loop-shard.shard-iterator) (into_iter_items c.next.new.self) c.in-Some.shard c.loop-shard.left.items c.in_ok-column.column.items (vec_len c.loop-shard.left) (vec_len c.in_ok-column.column) c.in-Some.ensures.steps.0 c.loop-shard.invariant.0 c.loop-shard.invariant.1 c.in_ok-column.ensures.first (search rules) (search rules)

pub close_one-requires-clause-column : goal.close_one-requires-clause-column
close_one-requires-clause-column g c =
    column_seats into_iter_items (IsShutSeat g.C.ShardCore.says) (IsShardOf g.C.ShardCore.says) (IsEnd g.C.ShardCore.says) (into_iter_items c.loop-shard.shard-iterator) (into_iter_items c.next.new.self) c.in-Some.shard c.loop-shard.left.items c.in_ok-column.column.items c.in-Some.ensures.steps.0 c.loop-shard.invariant.1 c.in_ok-column.ensures.first

pub loop-shard-preserved : goal.loop-shard-preserved
loop-shard-preserved g c =
    let more = c.in-Some.ensures.steps.0 in
    rw (c.push_reserved.ensures.items) (
      others_rooted into_iter_items (IsShutSeat g.C.ShardCore.says) (IsShardOf g.C.ShardCore.says) (IsEnd g.C.ShardCore.says) (into_iter_items c.loop-shard.shard-iterator) (into_iter_items c.next.new.self) c.in-Some.shard c.loop-shard.left.items c.in_ok-column.rest.items (vec_len c.loop-shard.left) (vec_len c.in_ok-column.rest) more c.loop-shard.invariant.0 (search rules) (search rules) c.in_ok-column.ensures.rest,
      others_grid into_iter_items (IsShutSeat g.C.ShardCore.says) (IsShardOf g.C.ShardCore.says) (IsEnd g.C.ShardCore.says) (into_iter_items c.loop-shard.shard-iterator) (into_iter_items c.next.new.self) c.in-Some.shard c.loop-shard.left.items c.in_ok-column.rest.items more c.loop-shard.invariant.1 c.in_ok-column.ensures.rest,
      goes_more into_iter_items (IsShutSeat g.C.ShardCore.says) (IsShardOf g.C.ShardCore.says) (IsEnd g.C.ShardCore.says) (into_iter_items c.loop-shard.shard-iterator) (into_iter_items c.next.new.self) c.in-Some.shard c.loop-shard.left.items c.args.shards.items (map vec_items c.args.rows.items) c.in_ok-column.rest.items c.in_ok-column.column.items c.loop-shard.ends.items _ more c.loop-shard.invariant.2
          c.in_ok-column.ensures.first c.in_ok-column.ensures.rest (search rules),
      search rules,
    )

pub returns : goal.returns
returns g c =
    goes_all (IsEnd g.C.ShardCore.says) c.args.shards.items (map vec_items c.args.rows.items) (into_iter_items c.loop-shard.shard-iterator) (map into_iter_items c.loop-shard.left.items) c.loop-shard.ends.items (search rules) c.loop-shard.invariant.2
