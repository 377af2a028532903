-- Small proper shapes of two nodes: each of them under the root alone.
use Rattle.std.specs.Prelude.{◌≡◌, ℕ, zero, suc, ◌<◌, ◌≤◌, [], ◌∷◌, List, length, slice_get, Option, Some, refl}
use Rattle.std.proofs.Common.{sym, ◌∙◌, ap, subst, arith}
use Rattle.std.proofs.lemmas.Option.{same_Some, none-some}
use Rattle.rl_word.specs.declared.shapes.Element.{Element}
use Rattle.rl_word.specs.OneNode.{root_element}
use Rattle.rl_word.specs.Shapes.{TheShape, IsParent, IsUnder, IsLeaf, IsNodeUnder, IsProper}

-- the element of a node, with a budget or without
abbrev pub leaf_element : ℕ → Option ℕ → Element
leaf_element node budget = record { parent = Some 0; first_node = node; budget = budget }

abbrev pub two_elements : Option ℕ → List Element
two_elements budget = root_element ∷ leaf_element 0 budget ∷ leaf_element 1 budget ∷ []

-- ranks on two nodes
abbrev pub two_nodes : List ℕ → Option ℕ → TheShape
two_nodes node_of budget = record { node_of = node_of; nodes = 2; leaf_of = 1 ∷ 2 ∷ []; elements = two_elements budget }

module _ (budget : Option ℕ) where
  -- whose parent an element is
  parent_is : (p c : ℕ) → IsParent (two_elements budget) p c → (p ≡ 0) × (0 < c)
  parent_is p zero q = absurd (none-some p (ap (λ z. z.parent) (same_Some root_element q.0 q.1) ∙ q.2))
  parent_is p (suc zero) q = (sym (same_Some 0 p (ap (λ z. z.parent) (same_Some (leaf_element 0 budget) q.0 q.1) ∙ q.2)), omega arith)
  parent_is p (suc (suc zero)) q = (sym (same_Some 0 p (ap (λ z. z.parent) (same_Some (leaf_element 1 budget) q.0 q.1) ∙ q.2)), omega arith)
  parent_is p (suc (suc (suc c))) q = absurd (none-some q.0 q.1)

  is_leaf : (e : ℕ) → 0 < e → e < 3 → IsLeaf (two_elements budget) e
  is_leaf e some low = record { there = low; childless = λ c p. let z = (parent_is e c p).0 in omega arith }

  leaf_is : (n e : ℕ) → slice_get (1 ∷ 2 ∷ []) n ≡ Some e → (n < 2) × (e ≡ suc n)
  leaf_is zero e h = (omega arith, sym (same_Some 1 e h))
  leaf_is (suc zero) e h = (omega arith, sym (same_Some 2 e h))
  leaf_is (suc (suc n)) e h = cc

  leaf_known : (e : ℕ) → IsLeaf (two_elements budget) e → (n : ℕ) × (slice_get (1 ∷ 2 ∷ []) n ≡ Some e)
  leaf_known zero l = absurd (l.childless 1 (leaf_element 0 budget, refl, refl))
  leaf_known (suc zero) l = (0, refl)
  leaf_known (suc (suc zero)) l = (1, refl)
  leaf_known (suc (suc (suc e))) l = let h : suc (suc (suc e)) < 3 = l.there in absurd (omega arith)

  has_parent : (e : ℕ) → 0 < e → e < 3 → (p : ℕ) × IsParent (two_elements budget) p e × (p < e)
  has_parent zero a b = absurd (omega arith)
  has_parent (suc zero) a b = (0, (leaf_element 0 budget, refl, refl), omega arith)
  has_parent (suc (suc zero)) a b = (0, (leaf_element 1 budget, refl, refl), omega arith)
  has_parent (suc (suc (suc e))) a b = absurd (omega arith)

  -- only a leaf itself is under a leaf
  under_leaf : (top steps e : ℕ) → 0 < top → IsUnder (two_elements budget) top steps e → e ≡ top
  under_leaf top zero e h u = u
  under_leaf top (suc steps) e h u =
      let p = (parent_is u.0 e u.1).0 in
      let k : u.0 ≡ top = under_leaf top steps u.0 h u.2 in absurd (omega arith)

  has_first : (ranks : List ℕ) (e : ℕ) (x : Element) → slice_get (two_elements budget) e ≡ Some x → IsNodeUnder (two_nodes ranks budget) e x.first_node
  has_first ranks zero x h = subst (λ z. IsNodeUnder (two_nodes ranks budget) 0 z.first_node) (same_Some root_element x h) (record { leaf = 1; has = refl; steps = 1; under = (0, (leaf_element 0 budget, refl, refl), refl) })
  has_first ranks (suc zero) x h = subst (λ z. IsNodeUnder (two_nodes ranks budget) 1 z.first_node) (same_Some (leaf_element 0 budget) x h) (record { leaf = 1; has = refl; steps = 0; under = refl })
  has_first ranks (suc (suc zero)) x h = subst (λ z. IsNodeUnder (two_nodes ranks budget) 2 z.first_node) (same_Some (leaf_element 1 budget) x h) (record { leaf = 2; has = refl; steps = 0; under = refl })
  has_first ranks (suc (suc (suc e))) x h = cc

  is_lowest : (ranks : List ℕ) (e n : ℕ) (x : Element) → slice_get (two_elements budget) e ≡ Some x → IsNodeUnder (two_nodes ranks budget) e n → x.first_node ≤ n
  is_lowest ranks zero n x h u = subst (λ z. z.first_node ≤ n) (same_Some root_element x h) (omega arith)
  is_lowest ranks (suc zero) n x h u = subst (λ z. z.first_node ≤ n) (same_Some (leaf_element 0 budget) x h) (omega arith)
  is_lowest ranks (suc (suc zero)) n x h u =
      let at : u.leaf ≡ 2 = under_leaf 2 u.steps u.leaf (omega arith) u.under in
      let is : u.leaf ≡ suc n = (leaf_is n u.leaf u.has).1 in
      subst (λ z. z.first_node ≤ n) (same_Some (leaf_element 1 budget) x h) (omega arith)
  is_lowest ranks (suc (suc (suc e))) n x h u = cc

  low_budget : ((b : ℕ) → budget ≡ Some b → b ≤ 1000) → (e b : ℕ) (x : Element) → slice_get (two_elements budget) e ≡ Some x → x.budget ≡ Some b → b ≤ 1000
  low_budget low zero b x h k = absurd (none-some b (ap (λ z. z.budget) (same_Some root_element x h) ∙ k))
  low_budget low (suc zero) b x h k = low b (ap (λ z. z.budget) (same_Some (leaf_element 0 budget) x h) ∙ k)
  low_budget low (suc (suc zero)) b x h k = low b (ap (λ z. z.budget) (same_Some (leaf_element 1 budget) x h) ∙ k)
  low_budget low (suc (suc (suc e))) b x h k = cc

  is_even : (n e : ℕ) → slice_get (1 ∷ 2 ∷ []) n ≡ Some e → IsUnder (two_elements budget) 0 1 e
  is_even zero e h = (0, subst (λ k. IsParent (two_elements budget) 0 k) (same_Some 1 e h) (leaf_element 0 budget, refl, refl), refl)
  is_even (suc zero) e h = (0, subst (λ k. IsParent (two_elements budget) 0 k) (same_Some 2 e h) (leaf_element 1 budget, refl, refl), refl)
  is_even (suc (suc n)) e h = cc

  -- such a shape is proper, where there are 1 to 32 ranks, each on a node that is there, and on each node a rank
  pub two_nodes_proper : (ranks : List ℕ) → length ranks ≤ 32 → ((r n : ℕ) → slice_get ranks r ≡ Some n → n < 2) → (r : ℕ) → slice_get ranks r ≡ Some 0 → (q : ℕ) → slice_get ranks q ≡ Some 1 → ((b : ℕ) → budget ≡ Some b → b ≤ 1000) → 0 < length ranks → IsProper (two_nodes ranks budget)
  two_nodes_proper ranks few sits r at_zero q at_one low some =
      record {
        some = some;
        few = few;
        sits = sits;
        used = used;
        root = (root_element, refl, refl);
        parented = has_parent;
        each_node = refl;
        leaves = λ n e h. let k = leaf_is n e h in let a = k.0 in let b = k.1 in is_leaf e (omega arith) (omega arith);
        all_leaves = leaf_known;
        once = λ m n e a b. let x = (leaf_is m e a).1 in let y = (leaf_is n e b).1 in omega arith;
        levels = 1;
        deep = omega arith;
        shallow = omega arith;
        even = is_even;
        first = has_first ranks;
        lowest = is_lowest ranks;
        budgets = low_budget low;
      } where
        used : (n : ℕ) → n < 2 → (i : ℕ) × (slice_get ranks i ≡ Some n)
        used zero h = (r, at_zero)
        used (suc zero) h = (q, at_one)
        used (suc (suc n)) h = absurd (omega arith)

-- so is one that is made of such lists
pub two_nodes_made : (budget : Option ℕ) (ranks node_of leaf_of : List ℕ) (elements : List Element) → node_of ≡ ranks → leaf_of ≡ 1 ∷ 2 ∷ [] → elements ≡ two_elements budget → IsProper (two_nodes ranks budget) →
    IsProper (record { node_of = node_of; nodes = 2; leaf_of = leaf_of; elements = elements })
two_nodes_made budget ranks rs ls es er el ee proper =
    subst (λ z. IsProper (record { node_of = z; nodes = 2; leaf_of = ls; elements = es })) (sym er)
    (subst (λ z. IsProper (record { node_of = ranks; nodes = 2; leaf_of = z; elements = es })) (sym el)
    (subst (λ z. IsProper (record { node_of = ranks; nodes = 2; leaf_of = 1 ∷ 2 ∷ []; elements = z })) (sym ee) proper))
