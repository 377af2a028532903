-- One shard more.
use Rattle.std.proofs.Common.{◌≡◌, ◌≤◌, ◌<◌, ◌+◌, ◌++◌, ◌∷◌, [], length, map, slice_index, sum, vec_items, ap, sym, subst, ◌∙◌, arith, length-append}
use Rattle.std.specs.List.{remove}
use Rattle.std.proofs.lemmas.List.{length-map}
use Rattle.rl_step.specs.LockQueues.{queues_of}
use Rattle.rl_ops.specs.Room.{calls_on, updates_on, IsRoom, AreRooms}
use Rattle.rl_ops.specs.laws.RoomLaws.{first_room}
use Rattle.rl_shard.specs.Counting.{first_counted}
use Rattle.rl_shard.specs.Shards.{core_at, table_at, IsShardOf}
use Rattle.rl_core.specs.laws.OpsBridge.{few_updates}
use Rattle.rl_core.specs.ShardTables.{site_with}
use Rattle.rl_run.specs.laws.RunLaws.{new_none, new_more, column_long}
use Rattle.rl_run.specs.Runs.{AreNew, IsNewShard, table_for, site_in}
use Rattle.rl_run.proofs.opening.open_all.Goals as goal
use Rattle.rl_run.proofs.opening.open_all.Goals.{After-remove-room}
use Rattle.rl_run.proofs.opening.open_all.Given.{Over}

pub loop-number-init : goal.loop-number-init
loop-number-init g c =
    let none : length c.new-shards.result.items ≡ 0 = ap length c.new-shards.ensures.items in
    let K = table_for c.args.shape.now c.args.knobs c.args.geom c.args.homes.now c.args.ops.now.by_rank in
    let rows = map vec_items c.in_ok-rows.rows.items in (
      none,
      subst (λ l. AreNew g.C.ShardCore.defined g.C.ShardCore.says K l rows) (sym c.new-shards.ensures.items)
          (new_none g.C.ShardCore.defined g.C.ShardCore.says K rows (length c.as_slice.result.now) c.in_ok-rows.ensures (sym (length-map c.as_slice.result.now _) ∙ ap length c.as_slice.ensures)),
      omega (arith, c.in_ok-rooms.ensures.all),
      c.in_ok-rooms.ensures.each,
    )

-- the room of the shard is the first that is left, and has a number for each rank
taken : (g : Over) (c : After-remove-room g) →
    IsRoom c.args.geom c.args.ops.now.by_rank c.loop-number.number c.remove-room.result
    × AreRooms c.args.geom c.args.ops.now.by_rank (c.loop-number.number + 1) (remove c.loop-number.rooms.items 0)
    × (length (remove c.loop-number.rooms.items 0) + (c.loop-number.number + 1) ≡ c.args.geom.shards)
taken g c =
    let inv = c.loop-number.invariant in
    first_room c.args.geom c.args.ops.now.by_rank c.loop-number.number c.loop-number.rooms.items c.remove-room.result inv.3 inv.2 c.loop-number-test.true c.remove-room.ensures.value

calls_long : (g : Over) (c : After-remove-room g) → length c.remove-room.result.calls.items ≡ length c.args.ops.now.by_rank
calls_long g c = ap length (taken g c).0.calls ∙ length-map c.args.ops.now.by_rank (calls_on c.args.geom c.loop-number.number)

updates_long : (g : Over) (c : After-remove-room g) → length c.remove-room.result.updates.items ≡ length c.args.ops.now.by_rank
updates_long g c = ap length (taken g c).0.updates ∙ length-map c.args.ops.now.by_rank (updates_on c.args.geom c.loop-number.number)

pub new-requires-clause-calls : goal.new-requires-clause-calls
new-requires-clause-calls g c =
    let long = calls_long g (goal.at.new-requires-clause-calls g c).After-remove-room in
    let ok = c.remove-room.result.calls.ok.0 in
    let ranks = c.requires.ranks in
    omega arith

pub new-requires-clause-updates : goal.new-requires-clause-updates
new-requires-clause-updates g c =
    let d = (goal.at.new-requires-clause-updates g c).After-remove-room in
    let long = updates_long g d in
    let ok = c.remove-room.result.updates.ok.0 in
    let ranks = c.requires.ranks in
    (omega arith, subst (λ l. sum l ≤ 20000) (sym (taken g d).0.updates) (few_updates c.args.geom c.loop-number.number 20000 c.args.ops.now.by_rank c.requires.few))

pub deal_seats-requires : goal.deal_seats-requires
deal_seats-requires g c =
    let calls = calls_long g (goal.at.deal_seats-requires g c).After-remove-room in
    let queues = length (queues_of g.C.ShardCore.name c.args.shape.now (slice_index c.args.homes.now c.loop-number.number) c.args.knobs) in
    let column = column_long (table_at g.C.ShardCore.says c.in_ok-shard.shard) queues c.remove-room.result.calls.items c.in_ok-shard.seats.items c.in_ok-shard.ensures.views in
    let rows = sym (length-map c.loop-number.rows.items vec_items) ∙ c.loop-number.invariant.1.ranks in
    let ok = c.in_ok-shard.seats.ok.0 in
    let all = c.loop-number.rows.ok.0 in
    omega arith

pub loop-number-preserved : goal.loop-number-preserved
loop-number-preserved g c =
    let room = taken g (goal.at.loop-number-preserved g c).After-remove-room in
    let homes = c.args.homes.now in
    let i = c.loop-number.number in
    let low : i < length homes = (let many = c.requires.many in let h = c.loop-number-test.true in omega arith) in
    let made = c.in_ok-shard.ensures in
    let ranks : length c.args.shape.now.node_of ≡ length c.args.ops.now.by_rank = sym c.requires.ranks in
    let K = table_for c.args.shape.now c.args.knobs c.args.geom homes c.args.ops.now.by_rank in
    let table_is = made.core ∙ ap (λ l. g.C.ShardCore.defined c.args.shape.now (slice_index homes i) c.args.knobs (site_with c.args.geom i l)) room.0.updates in
    let site_is = ap (λ T. T.site) table_is ∙ (g.met.C.ShardCore.laid c.args.shape.now (slice_index homes i) c.args.knobs (site_in K i)).site_is in
    let queues = length (queues_of g.C.ShardCore.name c.args.shape.now (slice_index homes i) c.args.knobs) in
    let views = made.views ∙ ap (first_counted (table_at g.C.ShardCore.says c.in_ok-shard.shard) queues) room.0.calls in
    let is_shard = subst (λ n. IsShardOf g.C.ShardCore.says n c.in_ok-shard.shard) ranks made.shard in
    let new : IsNewShard g.C.ShardCore.defined g.C.ShardCore.says K i c.in_ok-shard.shard = record { table_is = table_is; site_is = site_is; nodes_are = ap (λ l. l.nodes) made.layout; is_shard = is_shard } in
    let more = new_more g.C.ShardCore.defined g.C.ShardCore.says K c.loop-number.shards.items (map vec_items c.loop-number.rows.items) c.in_ok-shard.shard c.in_ok-shard.seats.items i queues
    c.loop-number.invariant.1 c.loop-number.invariant.0 new (g.met.C.ShardCore.shard_laws (core_at c.in_ok-shard.shard)).first_desk made.seats views made.closed in (
      ap length c.in_ok-push.ensures.items ∙ length-append c.loop-number.shards.items (c.in_ok-shard.shard ∷ []) ∙ ap (λ n. n + 1) c.loop-number.invariant.0,
      subst (λ l. AreNew g.C.ShardCore.defined g.C.ShardCore.says K l (map vec_items c.in_ok-rows-2.rows.items)) (sym c.in_ok-push.ensures.items)
          (subst (λ l. AreNew g.C.ShardCore.defined g.C.ShardCore.says K (c.loop-number.shards.items ++ c.in_ok-shard.shard ∷ []) l) (sym c.in_ok-rows-2.ensures) more),
      ap (λ l. length l + (i + 1)) c.remove-room.ensures.items ∙ room.2,
      subst (AreRooms c.args.geom c.args.ops.now.by_rank (i + 1)) (sym c.remove-room.ensures.items) room.1,
    )
