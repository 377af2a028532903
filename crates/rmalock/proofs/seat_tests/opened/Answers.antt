-- The seats of a new shard, whose ranks have room for one call each.
use Rattle.std.proofs.Common.{rules, ℕ, slice_index, ◌≡◌, ◌<◌, ◌≤◌, length, replicate, sum, vec_len, ap, sym, subst, ◌∙◌, arith}
use Rattle.std.proofs.lemmas.List.{length-map, get_or-replicate}
use Rattle.std.proofs.lemmas.Option.{slice_get_within}
use Rattle.rl_word.specs.Shapes.{TheShape}
use Rattle.rl_step.specs.LockQueues.{queues_of}
use Rattle.rl_place.specs.Places.{ThePlace}
use Rattle.rl_core.specs.ShardTables.{site_with}
use Rattle.rl_shard.specs.Counting.{first_counted}
use Rattle.rl_shard.specs.Shards.{IsShardOf, core_at, table_at}
use Rattle.rmalock.proofs.FreshLaws.{fresh_at}
use Rattle.rmalock.proofs.SeatLists.{node_there, sum_ones, new_long, room_long}
use Rattle.rmalock.proofs.seat_tests.opened.Goals as goal

pub new-requires-clause-home : goal.new-requires-clause-home
new-requires-clause-home g c = node_there c.in_ok-shape.shape c.in_ok-shape.ensures.proper

pub new-requires-clause-calls : goal.new-requires-clause-calls
new-requires-clause-calls g c =
    let counted : c.len-ranks.result ≡ length c.place.inside.paths.items = search rules in
    let there = counted ∙ ap (λ (p : ThePlace). length p.paths) c.place.view_is in
    let long : length c.in_ok-room.room.calls.items ≡ length c.in_ok-shape.shape.node_of = room_long c.args.place.now _ _ _ c.in_ok-shape.ensures.exact there c.in_ok-room.ensures.calls in
    search rules

pub new-requires-clause-updates : goal.new-requires-clause-updates
new-requires-clause-updates g c =
    let counted : c.len-ranks.result ≡ length c.place.inside.paths.items = search rules in
    let there = counted ∙ ap (λ (p : ThePlace). length p.paths) c.place.view_is in
    let long : length c.in_ok-room.room.updates.items ≡ length c.in_ok-shape.shape.node_of = room_long c.args.place.now _ _ _ c.in_ok-shape.ensures.exact there c.in_ok-room.ensures.updates in
    let ones = sum_ones (length c.args.place.now.paths) in
    let few = c.requires.proper.most_ranks in
    let small : sum (replicate (length c.args.place.now.paths) 1) ≤ 20000 = omega arith in
    (search rules, subst (λ l. sum l ≤ 20000) (sym (c.in_ok-room.ensures.updates ∙ ap (λ (n : ℕ). replicate n 1) there)) small)

pub returns-clause-shard : goal.returns-clause-shard
returns-clause-shard g c =
    let shard = c.in_ok-shard.shard in
    let queues = length (queues_of g.C.ShardCore.name c.in_ok-shape.shape 0 c.knobs.result) in
    let counted : c.len-ranks.result ≡ length c.place.inside.paths.items = search rules in
    let there : c.len-ranks.result ≡ length c.args.place.now.paths = counted ∙ ap (λ (p : ThePlace). length p.paths) c.place.view_is in
    let calls : c.in_ok-room.room.calls.items ≡ replicate (length c.args.place.now.paths) 1 = c.in_ok-room.ensures.calls ∙ ap (λ (n : ℕ). replicate n 1) there in
    let long : length c.in_ok-shape.shape.node_of ≡ length c.args.place.now.paths = ap (λ (s : TheShape). length s.node_of) c.in_ok-shape.ensures.exact ∙ length-map c.args.place.now.paths _ in
    let seats : length c.in_ok-shard.seats.items ≡ length c.args.place.now.paths =
    new_long (table_at g.C.ShardCore.says shard) queues (length c.args.place.now.paths) c.in_ok-shard.seats.items (c.in_ok-shard.ensures.views ∙ ap (first_counted (table_at g.C.ShardCore.says shard) queues) calls) in
    let many : vec_len c.in_ok-shard.seats ≡ length c.in_ok-shape.shape.node_of = search rules in
    subst (λ n. IsShardOf g.C.ShardCore.says n shard) (sym many) c.in_ok-shard.ensures.shard

pub returns-clause-fresh : goal.returns-clause-fresh
returns-clause-fresh g c = λ r s get.
    let shard = c.in_ok-shard.shard in
    let ranks = length c.args.place.now.paths in
    let queues = length (queues_of g.C.ShardCore.name c.in_ok-shape.shape 0 c.knobs.result) in
    let geom = ap (λ p. p.geom) c.place.view_is in
    let counted : c.len-ranks.result ≡ length c.place.inside.paths.items = search rules in
    let there : c.len-ranks.result ≡ length c.args.place.now.paths = counted ∙ ap (λ (p : ThePlace). length p.paths) c.place.view_is in
    let calls : c.in_ok-room.room.calls.items ≡ replicate (length c.args.place.now.paths) 1 = c.in_ok-room.ensures.calls ∙ ap (λ (n : ℕ). replicate n 1) there in
    let updates : c.in_ok-room.room.updates.items ≡ replicate (length c.args.place.now.paths) 1 = c.in_ok-room.ensures.updates ∙ ap (λ (n : ℕ). replicate n 1) there in
    let views = c.in_ok-shard.ensures.views ∙ ap (first_counted (table_at g.C.ShardCore.says shard) queues) calls in
    let seats : length c.in_ok-shard.seats.items ≡ ranks = new_long (table_at g.C.ShardCore.says shard) queues ranks c.in_ok-shard.seats.items views in
    let within : r < length c.in_ok-shard.seats.items = slice_get_within c.in_ok-shard.seats.items r s get in
    let low : r < ranks = omega arith in
    let site = ap (λ T. T.site) c.in_ok-shard.ensures.core ∙ (g.met.C.ShardCore.laid c.in_ok-shape.shape 0 c.knobs.result (site_with c.place.inside.geom 0 c.in_ok-room.room.updates.items)).site_is
    ∙ ap (site_with c.place.inside.geom 0) updates ∙ ap (λ z. site_with z 0 (replicate ranks 1)) geom in
    let one : slice_index (replicate ranks 1) r ≡ 1 = get_or-replicate ranks r 1 0 low in
    fresh_at g.C.ShardCore.says shard c.in_ok-shard.seats.items c.args.place.now.geom 0 queues (replicate ranks 1) (replicate ranks 1) site (g.met.C.ShardCore.shard_laws (core_at shard)).first_desk
    c.in_ok-shard.ensures.seats c.in_ok-shard.ensures.closed views r 1 s one one get
