-- A proper shape of three levels for the tests: one rank on a node under a group under the root.
use Rattle.std.proofs.Common.{◌≡◌, ◌∙◌, sym, ap, subst, arith, ℕ, zero, suc, ◌<◌, ◌≤◌, [], ◌∷◌, List, slice_get, Some, refl}
use Rattle.std.proofs.lemmas.Option.{same_Some, none-some}
use Rattle.rl_word.specs.declared.shapes.Element.{Element}
use Rattle.rl_word.specs.Shapes.{TheShape, IsParent, IsUnder, IsLeaf, IsNodeUnder, IsProper}
use Rattle.rl_tree.specs.TreeShape.{IsBudgeted}
use Rattle.lock_tests.specs.Tower.{top, group, node, storeys, tower}

-- each element but the root has the one before it as its parent
parent_is : (p c : ℕ) → IsParent storeys p c → c ≡ suc p
parent_is p zero q = absurd (none-some p (ap (λ z. z.parent) (same_Some top q.0 q.1) ∙ q.2))
parent_is p (suc zero) q = let e : 0 ≡ p = same_Some 0 p (ap (λ z. z.parent) (same_Some group q.0 q.1) ∙ q.2) in ap suc e
parent_is p (suc (suc zero)) q = let e : 1 ≡ p = same_Some 1 p (ap (λ z. z.parent) (same_Some node q.0 q.1) ∙ q.2) in ap suc e
parent_is p (suc (suc (suc c))) q = absurd (none-some q.0 q.1)

below_three : (e : ℕ) (x : Element) → slice_get storeys e ≡ Some x → e < 3
below_three zero x h = omega arith
below_three (suc zero) x h = omega arith
below_three (suc (suc zero)) x h = omega arith
below_three (suc (suc (suc e))) x h = cc

is_leaf : IsLeaf storeys 2
is_leaf = record { there = omega arith; childless = λ c p. let a : c ≡ 3 = parent_is 2 c p in let b : c < 3 = below_three c p.0 p.1 in omega arith }

leaf_is : (n e : ℕ) → slice_get (2 ∷ []) n ≡ Some e → (n ≡ 0) × (2 ≡ e)
leaf_is zero e h = (refl, same_Some 2 e h)
leaf_is (suc n) e h = cc

leaf_known : (e : ℕ) → IsLeaf storeys e → (n : ℕ) × (slice_get (2 ∷ []) n ≡ Some e)
leaf_known zero l = absurd (l.childless 1 (group, refl, refl))
leaf_known (suc zero) l = absurd (l.childless 2 (node, refl, refl))
leaf_known (suc (suc zero)) l = (0, refl)
leaf_known (suc (suc (suc e))) l = let h : suc (suc (suc e)) < 3 = l.there in absurd (omega arith)

has_parent : (e : ℕ) → 0 < e → e < 3 → (p : ℕ) × IsParent storeys p e × (p < e)
has_parent zero a b = absurd (omega arith)
has_parent (suc zero) a b = (0, (group, refl, refl), omega arith)
has_parent (suc (suc zero)) a b = (1, (node, refl, refl), omega arith)
has_parent (suc (suc (suc e))) a b = absurd (omega arith)

-- the node is two steps under the root
two_under : IsUnder storeys 0 2 2
two_under = (1, (node, refl, refl), (0, (group, refl, refl), refl))

has_first : (e : ℕ) (x : Element) → slice_get storeys e ≡ Some x → IsNodeUnder tower e x.first_node × (x.first_node ≡ 0)
has_first zero x h = subst (λ z. IsNodeUnder tower 0 z.first_node × (z.first_node ≡ 0)) (same_Some top x h) (record { leaf = 2; has = refl; steps = 2; under = two_under }, refl)
has_first (suc zero) x h = subst (λ z. IsNodeUnder tower 1 z.first_node × (z.first_node ≡ 0)) (same_Some group x h) (record { leaf = 2; has = refl; steps = 1; under = (1, (node, refl, refl), refl) }, refl)
has_first (suc (suc zero)) x h = subst (λ z. IsNodeUnder tower 2 z.first_node × (z.first_node ≡ 0)) (same_Some node x h) (record { leaf = 2; has = refl; steps = 0; under = refl }, refl)
has_first (suc (suc (suc e))) x h = cc

low : (e b : ℕ) (x : Element) → slice_get storeys e ≡ Some x → x.budget ≡ Some b → b ≤ 1000
low zero b x h k = absurd (none-some b (ap (λ z. z.budget) (same_Some top x h) ∙ k))
low (suc zero) b x h k = let e : 2 ≡ b = same_Some 2 b (ap (λ z. z.budget) (same_Some group x h) ∙ k) in omega arith
low (suc (suc zero)) b x h k = let e : 1 ≡ b = same_Some 1 b (ap (λ z. z.budget) (same_Some node x h) ∙ k) in omega arith
low (suc (suc (suc e))) b x h k = cc

sits : (r n : ℕ) → slice_get (0 ∷ []) r ≡ Some n → n < 1
sits zero n h = subst (λ z. z < 1) (same_Some 0 n h) (omega arith)
sits (suc r) n h = cc

pub tower_proper : IsProper tower
tower_proper =
    record {
      some = omega arith;
      few = omega arith;
      sits = sits;
      used = λ n h. let e : 0 ≡ n = omega arith in (0, ap Some e);
      root = (top, refl, refl);
      parented = has_parent;
      each_node = refl;
      leaves = λ n e h. subst (IsLeaf storeys) (leaf_is n e h).1 is_leaf;
      all_leaves = leaf_known;
      once = λ m n e a b. (leaf_is m e a).0 ∙ sym (leaf_is n e b).0;
      levels = 2;
      deep = omega arith;
      shallow = omega arith;
      even = λ n e h. subst (IsUnder storeys 0 2) (leaf_is n e h).1 two_under;
      first = λ e x h. (has_first e x h).0;
      lowest = λ e n x h u. let z : x.first_node ≡ 0 = (has_first e x h).1 in omega arith;
      budgets = low;
    }

pub tower_budgeted : IsBudgeted tower
tower_budgeted zero a b = absurd (omega arith)
tower_budgeted (suc zero) a b = refl
tower_budgeted (suc (suc zero)) a b = refl
tower_budgeted (suc (suc (suc e))) a b = absurd (omega arith)

-- a shape that is made of such lists is that
pub is_tower : (node_of leaf_of : List ℕ) (elements : List Element) → node_of ≡ 0 ∷ [] → leaf_of ≡ 2 ∷ [] → elements ≡ storeys → ◌≡◌ {A = TheShape} (record { node_of = node_of; nodes = 1; leaf_of = leaf_of; elements = elements }) tower
is_tower node_of leaf_of elements n l e =
    ap (λ z. record { node_of = z; nodes = 1; leaf_of = leaf_of; elements = elements }) n ∙
    ap (λ z. record { node_of = 0 ∷ []; nodes = 1; leaf_of = z; elements = elements }) l ∙
    ap (λ z. record { node_of = 0 ∷ []; nodes = 1; leaf_of = 2 ∷ []; elements = z }) e
