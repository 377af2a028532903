use Rattle.std.proofs.Common.{sym, ◌≤◌, length, arith}
use Rattle.std.proofs.lemmas.Result.{err_from_is_err_and}
use Rattle.rl_report.proofs.Loops.{no_line, bad_item, goes_on, tallies_step, tallies_end}
use Rattle.rl_report.proofs.sections.tallies_of.Goals as goal

pub returns-in_err-line : goal.returns-in_err-line
returns-in_err-line c =
    let p = err_from_is_err_and c.from_residual.result c.from_residual.ensures.1 in
    rw (p.1, p.2) (no_line _ _ _ _ _ _ _ c.loop-queue.invariant (tallies_step _ _ c.queue-item.result _ c.loop-queue-test.true c.queue-item.is) c.in_err-line.ensures.leaves)

pub returns-in_err-tally : goal.returns-in_err-tally
returns-in_err-tally c =
    let p = err_from_is_err_and c.from_residual-in_err-tally.result c.from_residual-in_err-tally.ensures.1 in
    rw (p.1, p.2) (bad_item _ _ _ _ _ _ _ _ _ c.loop-queue.invariant (tallies_step _ _ c.queue-item.result _ c.loop-queue-test.true c.queue-item.is) c.in_ok-line.ensures.leaves (sym c.in_err-tally.ensures))

pub loop-queue-preserved : goal.loop-queue-preserved
loop-queue-preserved c =
    rw c.in_ok-push.ensures.items (goes_on _ _ _ _ _ _ _ _ _ c.loop-queue.invariant (tallies_step _ _ c.queue-item.result _ c.loop-queue-test.true c.queue-item.is) c.in_ok-line.ensures.leaves (sym c.in_ok-tally.ensures))

pub returns : goal.returns
returns c = let most : length c.args.queues.now ≤ c.loop-queue.queue-index = omega (arith, c.loop-queue-test.false) in tallies_end _ _ _ _ _ c.loop-queue.invariant most
