-- One rank's view more.
use Rattle.std.proofs.Common.{◌≡◌, ◌+◌, ◌∷◌, [], ◌++◌, suc, length, slice_index, take, ap, sym, ◌∙◌, arith}
use Rattle.std.proofs.Math.Seq.{take-length}
use Rattle.rl_core.specs.ShardTables.{first_views}
use Rattle.rl_core.specs.laws.Filling.{views_next}
use Rattle.rl_core.proofs.opening.first_views.Goals as goal

pub loop-rank-preserved : goal.loop-rank-preserved
loop-rank-preserved g c =
    let L = (g.C.ShardCore.says c.args.core.now).table in
    let rooms = c.args.rooms.now in
    let rank = c.loop-rank.rank in
    let at : 0 + rank ≡ rank = omega arith in
    let more : suc rank ≡ rank + 1 = omega arith in
    c.in_ok-push.ensures.items ∙ ap (λ t. t ++ c.in_ok-view.view ∷ []) c.loop-rank.invariant ∙
    ap (λ x. first_views L 0 (take rank rooms) ++ x ∷ []) (c.in_ok-view.ensures ∙ ap (L.first (slice_index rooms rank)) (sym at)) ∙
    sym (views_next L 0 rooms rank (omega arith)) ∙ ap (λ n. first_views L 0 (take n rooms)) more

pub returns : goal.returns
returns g c =
    let L = (g.C.ShardCore.says c.args.core.now).table in
    let rooms = c.args.rooms.now in
    let all : c.loop-rank.rank ≡ length rooms = omega arith in
    c.loop-rank.invariant ∙ ap (λ n. first_views L 0 (take n rooms)) all ∙ ap (first_views L 0) (take-length rooms)
