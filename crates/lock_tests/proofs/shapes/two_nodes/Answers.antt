-- One rank on each of two nodes.
use Rattle.std.proofs.Common.{◌≡◌, ◌<◌, ℕ, zero, suc, [], ◌∷◌, slice_get, None, Some, refl, subst, arith, rules}
use Rattle.std.proofs.lemmas.Option.{same_Some}
use Rattle.rl_word.specs.Shapes.{IsProper}
use Rattle.lock_tests.proofs.TwoNodes.{two_elements, two_nodes, two_nodes_proper, two_nodes_made}
use Rattle.lock_tests.proofs.shapes.two_nodes.Goals as goal

sits : (r n : ℕ) → slice_get (0 ∷ 1 ∷ []) r ≡ Some n → n < 2
sits zero n h = subst (λ z. z < 2) (same_Some 0 n h) (omega arith)
sits (suc zero) n h = subst (λ z. z < 2) (same_Some 1 n h) (omega arith)
sits (suc (suc r)) n h = cc

proper : IsProper (two_nodes (0 ∷ 1 ∷ []) None)
proper = two_nodes_proper None (0 ∷ 1 ∷ []) (omega arith) sits 0 refl 1 refl (λ b e. cc) (omega arith)

pub returns-clause-proper : goal.returns-clause-proper
returns-clause-proper c =
    let elements : c.in_ok-vec-3.field-0.items ≡ two_elements None = search rules in
    two_nodes_made None (0 ∷ 1 ∷ []) _ _ _ c.in_ok-vec.ensures.items c.in_ok-vec-2.ensures.items elements proper
