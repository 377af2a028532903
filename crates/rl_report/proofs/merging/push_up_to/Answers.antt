-- At the first that looked at a later count.
use Rattle.std.proofs.Common.{◌∙◌, ◌++◌, ap, arith}
use Rattle.rl_report.proofs.Merges.{first_ones}
use Rattle.rl_report.proofs.merging.push_up_to.Goals as goal

pub returns-then-entry-count-clause-pushed : goal.returns-then-entry-count-clause-pushed
returns-then-entry-count-clause-pushed c =
    c.loop-place.invariant.pushed ∙ ap (λ z. c.args.history.now.items ++ z) (first_ones c.args.count c.loop-place.place c.args.reads.now _ (omega arith) c.if-entry-count.true c.loop-place.invariant.counted)
