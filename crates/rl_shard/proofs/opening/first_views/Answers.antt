-- One rank's view more.
use Rattle.std.proofs.Common.{◌≡◌, ◌∷◌, [], ◌++◌, length, take, ap, sym, ◌∙◌, arith}
use Rattle.std.proofs.Math.Seq.{take-length}
use Rattle.rl_shard.specs.Counting.{first_counted}
use Rattle.rl_shard.proofs.OpeningLaws.{fresh, first_more}
use Rattle.rl_shard.proofs.opening.first_views.Goals as goal

pub loop-rank-preserved : goal.loop-rank-preserved
loop-rank-preserved g c =
    let L = (g.C.ShardCore.says c.args.core.now).table in
    let rooms = c.args.rooms.now in
    let rank = c.loop-rank.rank in
    let so_far = first_counted L c.args.queues (take rank rooms) in
    c.in_ok-push.ensures.items
    ∙ ap (λ t. t ++ record { whole = c.in_ok-whole.whole; tallies = c.in_ok-tallies.tallies } ∷ []) c.loop-rank.invariant
    ∙ ap (λ t. so_far ++ record { whole = c.in_ok-whole.whole; tallies = t } ∷ []) c.in_ok-tallies.ensures
    ∙ ap (λ w. so_far ++ fresh c.args.queues w ∷ []) c.in_ok-whole.ensures
    ∙ sym (first_more L c.args.queues rooms rank (omega arith))

pub returns : goal.returns
returns g c =
    let L = (g.C.ShardCore.says c.args.core.now).table in
    let rooms = c.args.rooms.now in
    let all : c.loop-rank.rank ≡ length rooms = omega arith in
    c.loop-rank.invariant ∙ ap (λ n. first_counted L c.args.queues (take n rooms)) all ∙ ap (first_counted L c.args.queues) (take-length rooms)
