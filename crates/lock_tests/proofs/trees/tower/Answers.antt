-- The lists are those of the tower, which is proper and has its budgets.
use Rattle.std.proofs.Common.{sym, subst}
use Rattle.rl_word.specs.Shapes.{IsProper}
use Rattle.rl_tree.specs.TreeShape.{IsBudgeted}
use Rattle.lock_tests.specs.laws.Tower.{tower_proper, tower_budgeted, is_tower}
use Rattle.lock_tests.proofs.trees.tower.Goals as goal

pub new-requires-clause-proper : goal.new-requires-clause-proper
new-requires-clause-proper c = subst IsProper (sym (is_tower _ _ _ c.in_ok-vec.ensures.items c.in_ok-vec-2.ensures.items c.in_ok-vec-3.ensures.items)) tower_proper

pub new-requires-clause-budgeted : goal.new-requires-clause-budgeted
new-requires-clause-budgeted c = subst IsBudgeted (sym (is_tower _ _ _ c.in_ok-vec.ensures.items c.in_ok-vec-2.ensures.items c.in_ok-vec-3.ensures.items)) tower_budgeted
