use Rattle.std.proofs.Common.{ℕ, get_or, sym, subst, ◌∙◌}
use Rattle.std.proofs.lemmas.Option.{same_Some, slice_get-get_or}
use borrow.Author.Count.{below_more}
use Rattle.rl_report.specs.Reports.{TheShard}
use Rattle.rl_reporting.specs.Reported.{NumbersFit}
use Rattle.rl_reporting.proofs.reporting.parts_fit.Goals as goal

pub loop-part-preserved : goal.loop-part-preserved
loop-part-preserved c =
    let parts = c.args.parts.now in
    let i = c.loop-part.part-index in
    let here : (d : TheShard) → NumbersFit (get_or parts i d) = λ d.
    subst NumbersFit (c.part-item.is ∙ same_Some _ _ (sym (slice_get-get_or parts i c.part-item.result c.loop-part-test.true) ∙ slice_get-get_or parts i d c.loop-part-test.true)) c.part_fits.ensures in
    λ k d h. below_more (λ (n : ℕ). (x : TheShard) → NumbersFit (get_or parts n x)) i (λ n low x. c.loop-part.invariant n x low) here k h d
