-- One more number stands at the end.
use Rattle.std.proofs.Common.{◌∙◌, ◌≡◌, ◌+◌, ◌*◌, ◌++◌, ◌∷◌, [], suc, ap, sym, arith}
use Rattle.rl_queue.specs.RankWords.{every_second}
use Rattle.rl_queue.specs.laws.RankWordLaws.{every_second_more}
use Rattle.rl_queue.proofs.ranks.rank_words.Goals as goal

pub loop-rank-preserved : goal.loop-rank-preserved
loop-rank-preserved c =
    let e : c.loop-rank.rank + 1 ≡ suc c.loop-rank.rank = omega arith in
    c.in_ok-push.ensures.items ∙ ap (λ z. z ++ (c.args.from + 2 * c.loop-rank.rank) ∷ []) c.loop-rank.invariant ∙ sym (every_second_more c.args.from c.loop-rank.rank) ∙ ap (every_second c.args.from) (sym e)
