-- The smallest proper shapes: all ranks on one node, under the root alone.
use Rattle.std.specs.Prelude.{◌≡◌, ℕ, zero, suc, ◌<◌, ◌≤◌, [], ◌∷◌, List, length, replicate, slice_get, Some, None, refl}
use Rattle.std.proofs.Common.{sym, ◌∙◌, ap, subst, arith}
use Rattle.std.proofs.lemmas.Option.{same_Some, none-some}
use Rattle.std.proofs.lemmas.List.{length-replicate}
use Rattle.rl_word.specs.declared.shapes.Element.{Element}
use Rattle.rl_word.specs.Shapes.{IsParent, IsLeaf, IsNodeUnder, IsProper}
use Rattle.rl_word.specs.OneNode.{root_element, node_element, one_node}

zero_at : (n r k : ℕ) → slice_get (replicate n 0) r ≡ Some k → k ≡ 0
zero_at zero r k h = cc
zero_at (suc n) zero k h = sym (same_Some _ _ h)
zero_at (suc n) (suc r) k h = zero_at n r k h

first_there : (n : ℕ) → 0 < n → slice_get {X = ℕ} (replicate n 0) 0 ≡ Some 0
first_there zero h = absurd (omega arith)
first_there (suc n) h = refl

no_child : (c : ℕ) → IsParent (root_element ∷ node_element ∷ []) 1 c → ⊥
no_child zero p = let e : root_element.parent ≡ Some 1 = ap (λ z. z.parent) (same_Some root_element p.0 p.1) ∙ p.2 in none-some 1 e
no_child (suc zero) p =
    let e : node_element.parent ≡ Some 1 = ap (λ z. z.parent) (same_Some node_element p.0 p.1) ∙ p.2 in
    zero_is_no_one (same_Some 0 1 e) where
      zero_is_no_one : ◌≡◌ {A = ℕ} 0 1 → ⊥
      zero_is_no_one e = omega (arith, e)
no_child (suc (suc c)) p = none-some p.0 p.1

is_leaf : IsLeaf (root_element ∷ node_element ∷ []) 1
is_leaf = record { there = omega arith; childless = no_child }

leaf_is : (n e : ℕ) → slice_get (1 ∷ []) n ≡ Some e → (n ≡ 0) × (1 ≡ e)
leaf_is zero e h = (refl, same_Some 1 e h)
leaf_is (suc n) e h = cc

leaf_known : (ranks e : ℕ) → IsLeaf (root_element ∷ node_element ∷ []) e → (n : ℕ) × (slice_get (1 ∷ []) n ≡ Some e)
leaf_known ranks zero l = absurd (l.childless 1 (node_element, refl, refl))
leaf_known ranks (suc zero) l = (0, refl)
leaf_known ranks (suc (suc e)) l = let h : suc (suc e) < 2 = l.there in absurd (omega arith)

has_parent : (e : ℕ) → 0 < e → e < 2 → (p : ℕ) × IsParent (root_element ∷ node_element ∷ []) p e × (p < e)
has_parent zero a b = absurd (omega arith)
has_parent (suc zero) a b = (0, (node_element, refl, refl), omega arith)
has_parent (suc (suc e)) a b = absurd (omega arith)

has_first : (ranks e : ℕ) (x : Element) → slice_get (root_element ∷ node_element ∷ []) e ≡ Some x → IsNodeUnder (one_node ranks) e x.first_node × (x.first_node ≡ 0) × (x.budget ≡ None)
has_first ranks zero x h =
    let P : Element → Type 0 = λ z. IsNodeUnder (one_node ranks) 0 z.first_node × (z.first_node ≡ 0) × (z.budget ≡ None) in
    subst P (same_Some root_element x h) (record { leaf = 1; has = refl; steps = 1; under = (0, (node_element, refl, refl), refl) }, refl, refl)
has_first ranks (suc zero) x h =
    let P : Element → Type 0 = λ z. IsNodeUnder (one_node ranks) 1 z.first_node × (z.first_node ≡ 0) × (z.budget ≡ None) in
    subst P (same_Some node_element x h) (record { leaf = 1; has = refl; steps = 0; under = refl }, refl, refl)
has_first ranks (suc (suc e)) x h = cc

-- with 1 to 32 ranks such a shape is proper
pub one_node_proper : (ranks : ℕ) → 0 < ranks → ranks ≤ 32 → IsProper (one_node ranks)
one_node_proper ranks some few =
    let long : length (one_node ranks).node_of ≡ ranks = length-replicate ranks 0 in
    record {
      some = subst (λ n. 0 < n) (sym long) some;
      few = subst (λ n. n ≤ 32) (sym long) few;
      sits = λ r n h. let e : n ≡ 0 = zero_at ranks r n h in omega arith;
      used = λ n h. let e : 0 ≡ n = omega arith in (0, subst (λ k. slice_get (replicate ranks 0) 0 ≡ Some k) e (first_there ranks some));
      root = (root_element, refl, refl);
      parented = has_parent;
      each_node = refl;
      leaves = λ n e h. subst (IsLeaf (root_element ∷ node_element ∷ [])) (leaf_is n e h).1 is_leaf;
      all_leaves = leaf_known ranks;
      once = λ m n e a b. (leaf_is m e a).0 ∙ sym (leaf_is n e b).0;
      levels = 1;
      deep = omega arith;
      shallow = omega arith;
      even = λ n e h. let one = (leaf_is n e h).1 in (0, subst (λ k. IsParent (root_element ∷ node_element ∷ []) 0 k) one (node_element, refl, refl), refl);
      first = λ e x h. (has_first ranks e x h).0;
      lowest = λ e n x h u. let z : x.first_node ≡ 0 = (has_first ranks e x h).1 in omega arith;
      budgets = λ e b x h k. absurd (none-some b (sym (has_first ranks e x h).2 ∙ k));
    }

-- so is one that is made of such lists
pub one_node_made : (ranks : ℕ) (node_of leaf_of : List ℕ) (elements : List Element) → node_of ≡ replicate ranks 0 → leaf_of ≡ 1 ∷ [] → elements ≡ root_element ∷ node_element ∷ [] →
    0 < ranks → ranks ≤ 32 → IsProper (record { node_of = node_of; nodes = 1; leaf_of = leaf_of; elements = elements })
one_node_made ranks rs ls es er el ee some few =
    subst (λ z. IsProper (record { node_of = z; nodes = 1; leaf_of = ls; elements = es })) (sym er)
    (subst (λ z. IsProper (record { node_of = replicate ranks 0; nodes = 1; leaf_of = z; elements = es })) (sym el)
    (subst (λ z. IsProper (record { node_of = replicate ranks 0; nodes = 1; leaf_of = 1 ∷ []; elements = z })) (sym ee) (one_node_proper ranks some few)))
