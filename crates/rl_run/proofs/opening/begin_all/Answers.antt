use Rattle.std.proofs.Common.{rules, ◌≡◌, ◌≤◌, ◌∙◌, length, map, vec_items, ap, sym, arith}
use Rattle.std.proofs.lemmas.List.{length-map}
use Rattle.rl_run.specs.Runs.{wanted, made_of}
use Rattle.rl_run.proofs.WholeRun as whole
use Rattle.rl_run.proofs.opening.begin_all.Goals as goal

pub callers_of-requires-clause-sizes : goal.callers_of-requires-clause-sizes
callers_of-requires-clause-sizes g c =
    let same : length c.into_vec-2.result.items ≡ length c.into_vec.result.items =
    sym (length-map c.into_vec-2.result.items vec_items) ∙ ap length c.into_vec-2.ensures ∙ whole.sizes_long c.args.place.now.geom.shards c.args.ops.by_rank c.args.ops.sizes c.requires.calls.blocks
    ∙ sym (ap length c.into_vec.ensures) ∙ length-map c.into_vec.result.items vec_items in
    search rules

pub callers_of-requires-clause-rows : goal.callers_of-requires-clause-rows
callers_of-requires-clause-rows g c =
    let same : length c.in_ok-shards.rows.items ≡ length c.into_vec.result.items =
    sym (length-map c.in_ok-shards.rows.items vec_items) ∙ c.in_ok-shards.ensures.made.ranks ∙ sym (ap length c.into_vec.ensures) ∙ length-map c.into_vec.result.items vec_items in
    search rules

pub callers_of-requires-clause-few : goal.callers_of-requires-clause-few
callers_of-requires-clause-few g c =
    let same : length c.into_vec.result.items ≡ length c.args.place.now.paths = sym (length-map c.into_vec.result.items vec_items) ∙ ap length c.into_vec.ensures ∙ c.requires.calls.ranks_there in
    let most = c.requires.proper.most_ranks in
    let few : length c.into_vec.result.items ≤ 32 = omega arith in
    search rules

pub returns : goal.returns
returns g c =
    let geom = ap (λ p. p.geom) c.place.view_is in
    let homes = c.as_slice-homes.ensures.value ∙ ap (λ p. p.homes) c.place.view_is in
    let rows = map vec_items c.in_ok-shards.rows.items in
    let made : map made_of c.in_ok-callers.callers.items ≡ wanted c.args.place.now.geom 0 c.args.ops.by_rank c.args.ops.sizes rows =
    c.in_ok-callers.ensures.made ∙ ap (λ l. wanted c.place.inside.geom 0 l (map vec_items c.into_vec-2.result.items) rows) c.into_vec.ensures
    ∙ ap (λ l. wanted c.place.inside.geom 0 c.args.ops.by_rank l rows) c.into_vec-2.ensures ∙ ap (λ g. wanted g 0 c.args.ops.by_rank c.args.ops.sizes rows) geom in
    whole.begun g.C.ShardCore.defined g.C.ShardCore.says c.args.place.now c.args.ops c.requires.proper c.requires.calls c.in_ok-shape.shape c.knobs.result c.place.inside.geom c.as_slice-homes.result.now c.in_ok-shape.ensures.exact c.knobs.ensures geom homes c.in_ok-shards.shards.items rows c.in_ok-shards.ensures.made c.in_ok-shards.ensures.all
    g.C.ShardCore.batches g.met.C.ShardCore.has_batches c.requires.batches c.in_ok-callers.callers.items made c.in_ok-callers.ensures.may
