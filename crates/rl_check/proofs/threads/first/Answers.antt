use Rattle.std.proofs.Common.{arith}
use Rattle.std.proofs.lemmas.Option.{slice_get-get_or}
use Rattle.rl_check.specs.Threads.{answer_test}
use Rattle.rl_check.proofs.TestLaws.{pass_more}
use Rattle.rl_check.proofs.ThreadLaws.{nothing_here, something_here}
use Rattle.rl_check.proofs.threads.first.Goals as goal

pub loop-place-preserved : goal.loop-place-preserved
loop-place-preserved c =
    pass_more (answer_test c.args.all.now) c.loop-place.place c.loop-place.invariant
    (nothing_here c.args.all.now c.loop-place.place _ (slice_get-get_or c.args.all.now c.loop-place.place _ c.loop-place-test.true)
    (c.is_nothing.ensures.0 c.if-not-is_nothing.false))

pub returns-then-not-is_nothing : goal.returns-then-not-is_nothing
returns-then-not-is_nothing c =
    something_here c.args.all.now c.loop-place.place _ c.loop-place-test.true c.loop-place.invariant
    (slice_get-get_or c.args.all.now c.loop-place.place _ c.loop-place-test.true) _ c.is_nothing.ensures c.if-not-is_nothing.true

pub returns : goal.returns
returns c i low = c.loop-place.invariant i (omega arith)
