-- One core more.
use Rattle.std.proofs.Common.{◌≡◌, ℕ, ◌+◌, ◌<◌, ◌≤◌, [], ◌∷◌, ◌++◌, length, map, sum, slice_get, slice_index, take, Some, ap, sym, ◌∙◌, subst, arith}
use Rattle.std.proofs.lemmas.List.{length-map}
use Rattle.std.proofs.lemmas.Option.{slice_get-get_or}
use Rattle.std.proofs.Math.Seq.{take-length}
use Rattle.rl_place.specs.Places.{ThePlace}
use Rattle.rl_place.specs.Shapes.{shape_of, knobs_of}
use Rattle.rl_ops.specs.Room.{updates_on, AreRooms}
use Rattle.rl_ops.specs.laws.RoomLaws.{first_room}
use Rattle.rl_site.specs.Site.{Site}
use Rattle.rl_core.specs.ShardTables.{site_with}
use Rattle.rl_core.specs.laws.OpsBridge.{few_updates}
use Rattle.rl_machine.specs.Running.{ShardRun}
use Rattle.rl_machine.specs.Start.{first_shards, site_of}
use Rattle.rl_shown.proofs.CoresLaws.{tables_more, cores_more}
use Rattle.rl_shown.proofs.cores.cores_of.Goals as goal

-- the room that is taken is that of the shard
pub core_of-requires-clause-ranks : goal.core_of-requires-clause-ranks
core_of-requires-clause-ranks g c =
    let place = c.args.place.now in
    let inv = c.loop-shard.invariant in
    let taken = first_room place.geom c.args.ops.now.by_rank c.loop-shard.shard c.loop-shard.rooms.items c.remove-room.result inv.2 inv.1 (subst (λ (p : ThePlace). c.loop-shard.shard < p.geom.shards) c.place.view_is c.loop-shard-test.true) c.remove-room.ensures.value in
    ap length taken.0.updates ∙ length-map c.args.ops.now.by_rank (updates_on place.geom c.loop-shard.shard) ∙ c.requires.calls.ranks_there

pub core_of-requires-clause-few : goal.core_of-requires-clause-few
core_of-requires-clause-few g c =
    let place = c.args.place.now in
    let inv = c.loop-shard.invariant in
    let taken = first_room place.geom c.args.ops.now.by_rank c.loop-shard.shard c.loop-shard.rooms.items c.remove-room.result inv.2 inv.1 (subst (λ (p : ThePlace). c.loop-shard.shard < p.geom.shards) c.place.view_is c.loop-shard-test.true) c.remove-room.ensures.value in
    subst (λ l. sum l ≤ 20000) (sym taken.0.updates) (few_updates place.geom c.loop-shard.shard 20000 c.args.ops.now.by_rank c.requires.calls.few)

pub loop-shard-preserved : goal.loop-shard-preserved
loop-shard-preserved g c =
    let place = c.args.place.now in
    let calls = c.args.ops.now.by_rank in
    let i = c.loop-shard.shard in
    let homes = place.homes in
    let home = slice_index homes i in
    let core = c.in_ok-core_of.field-0 in
    let inv = c.loop-shard.invariant in
    let T = λ (h : ℕ) (site : Site). g.C.ShardCore.defined (shape_of place) h (knobs_of place.lock) site in
    let low : i < length homes = (let many = c.requires.proper.each_shard in let h = c.loop-shard-test.true in let same = ap (λ (p : ThePlace). p.geom.shards) c.place.view_is in omega arith) in
    let at : slice_get homes i ≡ Some home = slice_get-get_or homes i 0 low in
    let nth : 0 + i ≡ i = omega arith in
    let taken = first_room place.geom calls i c.loop-shard.rooms.items c.remove-room.result inv.2 inv.1 (subst (λ (p : ThePlace). c.loop-shard.shard < p.geom.shards) c.place.view_is c.loop-shard-test.true) c.remove-room.ensures.value in
    let made = c.in_ok-core_of.ensures ∙ ap (λ l. T home (site_with place.geom i l)) taken.0.updates ∙ ap (λ n. T home (site_of place.geom calls n)) (sym nth) in (
      ap (map (λ k. (g.C.ShardCore.says k).table)) c.in_ok-push.ensures.items ∙ cores_more (λ k. (g.C.ShardCore.says k).table) c.loop-shard.cores.items core
          ∙ ap (λ z. z ++ (g.C.ShardCore.says core).table ∷ []) inv.0 ∙ ap (λ z. map (λ (S : ShardRun _). S.table) (first_shards T (shape_of place).nodes place.geom calls 0 (take i homes)) ++ z ∷ []) made
          ∙ sym (tables_more T (shape_of place).nodes place.geom calls 0 homes i home at),
      ap (λ l. length l + (i + 1)) c.remove-room.ensures.items ∙ taken.2,
      subst (AreRooms place.geom calls (i + 1)) (sym c.remove-room.ensures.items) taken.1,
    )

pub returns : goal.returns
returns g c =
    let place = c.args.place.now in
    let all : c.loop-shard.shard ≡ length place.homes = (let many = c.requires.proper.each_shard in let inv = c.loop-shard.invariant.1 in let past = c.loop-shard-test.false in let same = ap (λ (p : ThePlace). p.geom.shards) c.place.view_is in omega arith) in
    let T = λ (h : ℕ) (site : Site). g.C.ShardCore.defined (shape_of place) h (knobs_of place.lock) site in
    c.loop-shard.invariant.0 ∙ ap (λ n. map (λ (S : ShardRun _). S.table) (first_shards T (shape_of place).nodes place.geom c.args.ops.now.by_rank 0 (take n place.homes))) all
    ∙ ap (λ z. map (λ (S : ShardRun _). S.table) (first_shards T (shape_of place).nodes place.geom c.args.ops.now.by_rank 0 z)) (take-length place.homes)
