use Rattle.std.proofs.Common.{◌<◌, ◌∷◌, [], length, arith}
use Rattle.rl_place.proofs.Printing.{two_more, budgets-more}
use Rattle.rl_place.proofs.printer.put_budgets.Goals as goal

pub loop-budget-preserved : goal.loop-budget-preserved
loop-budget-preserved c =
    let within : c.loop-budget.budget-index < length c.args.budgets.now = omega (arith, c.loop-budget-test.true, c.loop-budget.auto.budget-index-end) in
    two_more _ _ _ (32 ∷ []) _ _ _ _ c.loop-budget.invariant c.in_ok-push.ensures.items (rw c.from.ensures at c.in_ok-put_number.ensures.puts) (budgets-more c.args.budgets.now c.loop-budget.budget-index 0 within)
