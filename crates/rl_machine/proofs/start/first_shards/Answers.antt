-- One shard more.
use Rattle.std.proofs.Common.{◌≡◌, ℕ, refl, ◌+◌, ◌<◌, ◌≤◌, length, sum, slice_get, slice_index, take, Some, ap, sym, ◌∙◌, subst, arith}
use Rattle.std.proofs.lemmas.List.{length-map}
use Rattle.std.proofs.lemmas.Option.{slice_get-get_or}
use Rattle.rl_word.specs.Shapes.{layout_of}
use Rattle.rl_step.specs.Batches.{HandsOn}
use Rattle.rl_ops.specs.Room.{calls_on, updates_on, AreRooms}
use Rattle.rl_ops.specs.laws.RoomLaws.{first_room}
use Rattle.rl_machine.specs.Cores.{EachSits, EachHandsOn}
use Rattle.rl_machine.specs.laws.CoreLaws.{core_more, home_there}
use Rattle.rl_machine.specs.laws.ShardsMore.{shards_more, cores_more, length_cores, length_more}
use Rattle.rl_site.specs.Site.{Site}
use Rattle.rl_core.specs.ShardTables.{site_with}
use Rattle.std.proofs.Math.Seq.{take-length}
use Rattle.rl_core.specs.laws.OpsBridge.{few_updates}
use Rattle.rl_machine.specs.Start.{first_shard, first_shards, site_of}
use Rattle.rl_machine.specs.State.{running_shards, cores_in}
use Rattle.rl_machine.proofs.start.first_shards.Goals as goal

pub first_shard-requires-clause-home : goal.first_shard-requires-clause-home
first_shard-requires-clause-home g c =
    let homes = c.args.homes.now in
    let low : c.loop-shard.shard < length homes = (let many = c.requires.many in let h = c.loop-shard-test.true in omega arith) in
    home_there (λ h. h < c.args.shape.now.nodes) homes c.loop-shard.shard 0 c.requires.homes low

-- the room that is taken is that of the shard
pub first_shard-requires-clause-ranks : goal.first_shard-requires-clause-ranks
first_shard-requires-clause-ranks g c =
    let inv = c.loop-shard.invariant in
    let taken = first_room c.args.geom c.args.ops.now.by_rank c.loop-shard.shard c.loop-shard.rooms.items c.remove-room.result inv.5 inv.4 c.loop-shard-test.true c.remove-room.ensures.value in
    ap length taken.0.calls ∙ length-map c.args.ops.now.by_rank (calls_on c.args.geom c.loop-shard.shard) ∙ c.requires.ranks

pub first_shard-requires-clause-update_ranks : goal.first_shard-requires-clause-update_ranks
first_shard-requires-clause-update_ranks g c =
    let inv = c.loop-shard.invariant in
    let taken = first_room c.args.geom c.args.ops.now.by_rank c.loop-shard.shard c.loop-shard.rooms.items c.remove-room.result inv.5 inv.4 c.loop-shard-test.true c.remove-room.ensures.value in
    ap length taken.0.updates ∙ length-map c.args.ops.now.by_rank (updates_on c.args.geom c.loop-shard.shard) ∙ c.requires.ranks

pub first_shard-requires-clause-few : goal.first_shard-requires-clause-few
first_shard-requires-clause-few g c =
    let inv = c.loop-shard.invariant in
    let taken = first_room c.args.geom c.args.ops.now.by_rank c.loop-shard.shard c.loop-shard.rooms.items c.remove-room.result inv.5 inv.4 c.loop-shard-test.true c.remove-room.ensures.value in
    subst (λ l. sum l ≤ 20000) (sym taken.0.updates) (few_updates c.args.geom c.loop-shard.shard 20000 c.args.ops.now.by_rank c.requires.few)

pub loop-shard-preserved : goal.loop-shard-preserved
loop-shard-preserved g c =
    let homes = c.args.homes.now in
    let shape = c.args.shape.now in
    let i = c.loop-shard.shard in
    let items = c.loop-shard.shards.items in
    let home = slice_index homes i in
    let first = c.in_ok-first.first in
    let made = c.in_ok-first.ensures in
    let inv = c.loop-shard.invariant in
    let low : i < length homes = (let many = c.requires.many in let h = c.loop-shard-test.true in omega arith) in
    let at : slice_get homes i ≡ Some home = slice_get-get_or homes i 0 low in
    let cores = cores_in items in
    let here : slice_get homes (length cores) ≡ Some home = ap (slice_get homes) (length_cores items ∙ inv.1) ∙ at in
    let pushed = c.in_ok-push.ensures.items in
    let grown = ap cores_in pushed ∙ cores_more items first in
    let taken = first_room c.args.geom c.args.ops.now.by_rank i c.loop-shard.rooms.items c.remove-room.result inv.5 inv.4 c.loop-shard-test.true c.remove-room.ensures.value in
    let run = made.made ∙ ap (λ l. first_shard (g.C.ShardCore.defined shape home c.args.knobs (site_with c.args.geom i l)) shape.nodes c.remove-room.result.calls.items) taken.0.updates
    ∙ ap (first_shard (g.C.ShardCore.defined shape home c.args.knobs (site_of c.args.geom c.args.ops.now.by_rank i)) shape.nodes) taken.0.calls in (
      ap (running_shards g.C.ShardCore.says) pushed
          ∙ shards_more g.C.ShardCore.says (λ h site. g.C.ShardCore.defined shape h c.args.knobs site) shape.nodes c.args.geom c.args.ops.now.by_rank homes items i home first inv.0 low refl run,
      (let e = ap length pushed in let n = length_more items first in let o = inv.1 in omega arith),
      subst (EachHandsOn g.C.ShardCore.says g.C.ShardCore.promised shape c.args.knobs homes) (sym grown)
          (core_more (λ (h : ℕ) (core : g.row.C.Denot). HandsOn (g.C.ShardCore.says core).further (g.C.ShardCore.promised shape h c.args.knobs)) homes cores home first.core inv.2 here made.promised),
      subst (EachSits g.C.ShardCore.says (layout_of shape) homes) (sym grown)
          (core_more (λ (h : ℕ) (core : g.row.C.Denot). (g.C.ShardCore.says core).layout ≡ layout_of shape) homes cores home first.core inv.3 here made.layout),
      ap (λ l. length l + (i + 1)) c.remove-room.ensures.items ∙ taken.2,
      subst (AreRooms c.args.geom c.args.ops.now.by_rank (i + 1)) (sym c.remove-room.ensures.items) taken.1,
    )

pub returns-clause-made : goal.returns-clause-made
returns-clause-made g c =
    let homes = c.args.homes.now in
    let shape = c.args.shape.now in
    let all : c.loop-shard.shard ≡ length homes = (let many = c.requires.many in omega arith) in
    let T = λ (h : ℕ) (site : Site). g.C.ShardCore.defined shape h c.args.knobs site in
    c.loop-shard.invariant.0 ∙ ap (λ n. first_shards T shape.nodes c.args.geom c.args.ops.now.by_rank 0 (take n homes)) all
    ∙ ap (first_shards T shape.nodes c.args.geom c.args.ops.now.by_rank 0) (take-length homes)

pub returns-clause-promised : goal.returns-clause-promised
returns-clause-promised g c = c.loop-shard.invariant.2

pub returns-clause-layout : goal.returns-clause-layout
returns-clause-layout g c = c.loop-shard.invariant.3
