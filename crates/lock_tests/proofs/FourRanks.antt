-- A proper shape of two levels for the tests of locks over a tree: two ranks on each of two nodes, whose elements have a budget of 1.
use Rattle.std.proofs.Common.{◌≡◌, ◌<◌, ℕ, zero, suc, [], ◌∷◌, List, slice_get, Some, refl, sym, subst, arith}
use Rattle.std.proofs.lemmas.Option.{same_Some}
use Rattle.rl_word.specs.declared.shapes.Element.{Element}
use Rattle.rl_word.specs.Shapes.{IsProper}
use Rattle.lock_tests.proofs.TwoNodes.{two_elements, two_nodes, two_nodes_proper}
use Rattle.rl_tree.specs.TreeShape.{IsBudgeted}

abbrev pub seats : List ℕ
seats = 0 ∷ 0 ∷ 1 ∷ 1 ∷ []

sits : (r n : ℕ) → slice_get seats r ≡ Some n → n < 2
sits zero n h = subst (λ z. z < 2) (same_Some 0 n h) (omega arith)
sits (suc zero) n h = subst (λ z. z < 2) (same_Some 0 n h) (omega arith)
sits (suc (suc zero)) n h = subst (λ z. z < 2) (same_Some 1 n h) (omega arith)
sits (suc (suc (suc zero))) n h = subst (λ z. z < 2) (same_Some 1 n h) (omega arith)
sits (suc (suc (suc (suc r)))) n h = cc

pub four_ranks_proper : IsProper (two_nodes seats (Some 1))
four_ranks_proper = two_nodes_proper (Some 1) seats (omega arith) sits 0 refl 2 refl (λ b e. let k = same_Some 1 b e in omega arith) (omega arith)

-- a shape that is made of such elements has its budgets
pub four_ranks_budgeted : (ranks ls : List ℕ) (elements : List Element) → elements ≡ two_elements (Some 1) → IsBudgeted (record { node_of = ranks; nodes = 2; leaf_of = ls; elements = elements })
four_ranks_budgeted ranks ls elements e = subst (λ z. IsBudgeted (record { node_of = ranks; nodes = 2; leaf_of = ls; elements = z })) (sym e) at where
  at : IsBudgeted (record { node_of = ranks; nodes = 2; leaf_of = ls; elements = two_elements (Some 1) })
  at zero a b = absurd (omega arith)
  at (suc zero) a b = refl
  at (suc (suc zero)) a b = refl
  at (suc (suc (suc e))) a b = absurd (omega arith)
