use Rattle.std.proofs.Common.{sym, arith}
use Rattle.std.proofs.lemmas.Result.{err_from_is_err_and}
use Rattle.rl_report.proofs.Loops.{no_line, bad_item, goes_on, entries_step, entries_end}
use Rattle.rl_report.proofs.sections.entries_of.Goals as goal

pub returns-in_err-line : goal.returns-in_err-line
returns-in_err-line c =
    let p = err_from_is_err_and c.from_residual.result c.from_residual.ensures.1 in
    rw (p.1, p.2) (no_line _ _ _ _ _ _ _ c.loop.invariant (entries_step _ _ _ _ _ _ c.loop-test.true) c.in_err-line.ensures.leaves)

pub returns-in_err-entry : goal.returns-in_err-entry
returns-in_err-entry c =
    let p = err_from_is_err_and c.from_residual-in_err-entry.result c.from_residual-in_err-entry.ensures.1 in
    rw (p.1, p.2) (bad_item _ _ _ _ _ _ _ _ _ c.loop.invariant (entries_step _ _ _ _ _ _ c.loop-test.true) c.in_ok-line.ensures.leaves (sym c.in_err-entry.ensures))

pub loop-preserved : goal.loop-preserved
loop-preserved c =
    rw c.in_ok-push.ensures.items (goes_on _ _ _ _ _ _ _ _ _ c.loop.invariant (entries_step _ _ _ _ _ _ c.loop-test.true) c.in_ok-line.ensures.leaves (sym c.in_ok-entry.ensures))

pub returns : goal.returns
returns c = entries_end _ _ _ _ _ _ _ _ c.loop.invariant (omega (arith, c.loop-test.false))
