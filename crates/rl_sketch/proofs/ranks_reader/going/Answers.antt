use Rattle.std.proofs.Common.{◌++◌, [], ◌∷◌, sym, ap, ◌∙◌}
use Rattle.rl_sketch.proofs.RankLaws.{going_with, going_without}
use Rattle.rl_sketch.proofs.ranks_reader.going.Goals as goal

pub loop-rank-preserved-then-is_among : goal.loop-rank-preserved-then-is_among
loop-rank-preserved-then-is_among c = c.loop-rank.invariant ∙ sym (going_without c.loop-rank.rank c.args.stopped.now (sym c.is_among.ensures ∙ c.if-is_among.true))

pub loop-rank-preserved : goal.loop-rank-preserved
loop-rank-preserved c =
    c.in_ok-push.ensures.items ∙ ap (λ l. l ++ c.loop-rank.rank ∷ []) c.loop-rank.invariant
    ∙ sym (going_with c.loop-rank.rank c.args.stopped.now (sym c.is_among.ensures ∙ c.if-is_among.false))
