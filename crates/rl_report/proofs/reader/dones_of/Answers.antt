use Rattle.std.proofs.Common.{sym, arith}
use Rattle.std.proofs.lemmas.Result.{err_from_is_err_and}
use Rattle.rl_report.proofs.Loops.{no_line, bad_item, goes_on, dones_step, dones_end}
use Rattle.rl_report.proofs.reader.dones_of.Goals as goal

pub returns-in_err-line : goal.returns-in_err-line
returns-in_err-line c =
    let p = err_from_is_err_and c.from_residual.result c.from_residual.ensures.1 in
    rw (p.1, p.2) (no_line _ _ _ _ _ _ _ c.loop-rank.invariant (dones_step _ _ _ c.loop-rank-test.true) c.in_err-line.ensures.leaves)

pub returns-in_err-done : goal.returns-in_err-done
returns-in_err-done c =
    let p = err_from_is_err_and c.from_residual-in_err-done.result c.from_residual-in_err-done.ensures.1 in
    rw (p.1, p.2) (bad_item _ _ _ _ _ _ _ _ _ c.loop-rank.invariant (dones_step _ _ _ c.loop-rank-test.true) c.in_ok-line.ensures.leaves (sym c.in_err-done.ensures))

pub loop-rank-preserved : goal.loop-rank-preserved
loop-rank-preserved c =
    rw c.in_ok-push.ensures.items (goes_on _ _ _ _ _ _ _ _ _ c.loop-rank.invariant (dones_step _ _ _ c.loop-rank-test.true) c.in_ok-line.ensures.leaves (sym c.in_ok-done.ensures))

pub returns : goal.returns
returns c = dones_end _ _ _ _ _ c.loop-rank.invariant (omega (arith, c.loop-rank-test.false))
