use Rattle.std.proofs.Common.{◌≡◌, ◌++◌, take}
use Rattle.std.specs.List.{join_with_byte}
use Rattle.rl_place.specs.Spelling.{budget_words}
use Rattle.rl_place.proofs.printer.put_budgets.Given as goal

abbrev pub invariant-loop-budget : goal.invariant-loop-budget
invariant-loop-budget l = l.out.items ≡ l.fn.out.items ++ join_with_byte 32 (budget_words (take l.budget-index l.budgets))
