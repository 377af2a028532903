use Rattle.std.proofs.Common.{◌∙◌, sym, arith}
use Rattle.rl_check.proofs.WholeLaws.{whole_by, one_more_by}
use Rattle.rl_check.proofs.blocks.is_whole_batch.Goals as goal

pub loop-place-preserved : goal.loop-place-preserved
loop-place-preserved c =
    one_more_by c.args.entries.now c.args.start _ c.requires c.loop-place.place _ (omega arith) (omega arith) c.goes_on.ensures c.if-not-goes_on.false c.loop-place.invariant

pub returns : goal.returns
returns c =
    whole_by c.args.entries.now c.args.start _ c.requires (sym c.is_update.ensures ∙ c.if-not-is_update.false) c.if-first-ne0.false c.if-size-eq0.false c.if-size-entries.false c.loop-place.place c.loop-place-test.false c.loop-place.invariant
