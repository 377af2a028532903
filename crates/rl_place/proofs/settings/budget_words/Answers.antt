use Rattle.std.proofs.Common.{sym, arith}
use Rattle.std.proofs.lemmas.Result.{err_from_is_err_and}
use Rattle.rl_place.proofs.BudgetLoop.{fails, goes_on, ends_so}
use Rattle.rl_place.proofs.settings.budget_words.Goals as goal

pub returns-in_err-budget-clause-value : goal.returns-in_err-budget-clause-value
returns-in_err-budget-clause-value c =
    let p = err_from_is_err_and c.from_residual.result c.from_residual.ensures.1 in
    let budget = rw (c.loop.invariant.row, c.loop.invariant.next, c.from.ensures) at (sym c.in_err-budget.ensures.value) in
    rw (p.1, p.2) (fails c.args.words.now.row 2 c.loop.counter c.args.count _ _ _ c.loop.invariant.so_far c.loop-test.true budget)

pub loop-preserved : goal.loop-preserved
loop-preserved c =
    let budget = rw (c.loop.invariant.row, c.loop.invariant.next, c.from.ensures) at (sym c.in_ok-budget.ensures.value) in
    record {
      row = rw c.in_ok-budget.ensures.steps c.loop.invariant.row;
      next = rw c.in_ok-budget.ensures.steps (omega (arith, c.loop.invariant.next));
      so_far = rw c.in_ok-push.ensures.ok (goes_on c.args.words.now.row 2 c.loop.counter c.args.count _ _ _ c.loop.invariant.so_far c.loop-test.true budget);
    }

pub returns-clause-value : goal.returns-clause-value
returns-clause-value c = ends_so c.args.words.now.row 2 c.loop.counter c.args.count _ _ c.loop.invariant.so_far (omega (arith, c.loop-test.false))
