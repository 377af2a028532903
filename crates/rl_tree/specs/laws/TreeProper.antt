-- A proper shape is a tree as the proofs take it: paths go up to element 0 in so many steps, and depths are counted from the leaves.
use Rattle.std.specs.Prelude.{◌≡◌, ℕ, zero, suc, ◌+◌, ◌-◌, ◌<◌, ◌≤◌, ◌==◌, ◌||◌, Bool, true, false, List, [], ◌∷◌, length, slice_get, slice_index, Option, Some, None, refl, unwrap_or}
use Rattle.std.proofs.Common.{sym, ◌∙◌, ap, subst, arith}
use Rattle.std.proofs.lemmas.Option.{same_Some, slice_get_within, get_or_from_slice_get}
use Rattle.rl_word.specs.laws.Places.{some_at}
use Rattle.rl_word.specs.declared.shapes.Element.{Element}
use Rattle.rl_word.specs.Shapes.{IsProper, IsParent, IsUnder}
use Rattle.rl_step.specs.laws.QueueLemmas.{eqb_means}
use Rattle.rl_queue.specs.laws.Choices.{same_test}
use Rattle.rl_tree.specs.Tree.{path}
use Rattle.rl_tree.specs.declared.rooted.Rooted.{Rooted}
use Rattle.rl_tree.specs.Elements.{how_many, ranks_in, first_node_of, leaf_of_rank, is_node, tree_of}
use Rattle.rl_step.specs.LockQueues.{parent_of, stands}
use Rattle.rl_tree.specs.TreeShape.{IsTreed, above_it, steps_up}

-- a number that stands in a list stands at some place
stands_at : (xs : List ℕ) (e : ℕ) → stands xs e ≡ true → (n : ℕ) × (slice_get xs n ≡ Some e)
stands_at [] e h = cc
stands_at (x ∷ xs) e h = by (x == e) refl (λ k. stands_at xs e k) where
  by : (b : Bool) → (x == e) ≡ b → (stands xs e ≡ true → (n : ℕ) × (slice_get xs n ≡ Some e)) → (n : ℕ) × (slice_get (x ∷ xs) n ≡ Some e)
  by true q f = (0, ap Some (eqb_means x e q))
  by false q f = let k = f (sym (ap (λ z. z || stands xs e) q) ∙ h) in (suc k.0, k.1)

at_stands : (xs : List ℕ) (n e : ℕ) → slice_get xs n ≡ Some e → stands xs e ≡ true
at_stands [] n e h = cc
at_stands (x ∷ xs) zero e h = ap (λ z. z || stands xs e) (ap (λ z. z == e) (same_Some _ _ h) ∙ same_test e)
at_stands (x ∷ xs) (suc n) e h = or_true (x == e) (stands xs e) (at_stands xs n e h) where
  or_true : (a b : Bool) → b ≡ true → (a || b) ≡ true
  or_true true b q = refl
  or_true false b q = q

module _ (K : Rooted) (P : IsProper K.shape) where
  parent_is : (e p : ℕ) → IsParent K.shape.elements p e → parent_of (slice_get K.shape.elements e) ≡ Some p
  parent_is e p k = ap parent_of k.1 ∙ k.2

  parent_back : (e p : ℕ) → parent_of (slice_get K.shape.elements e) ≡ Some p → IsParent K.shape.elements p e
  parent_back e p h = at (slice_get K.shape.elements e) refl h where
    at : (o : Option Element) → slice_get K.shape.elements e ≡ o → parent_of o ≡ Some p → IsParent K.shape.elements p e
    at None q h = cc
    at (Some x) q h = (x, q, h)

  pub root_free : parent_of (slice_get K.shape.elements 0) ≡ None
  root_free = ap parent_of P.root.1 ∙ P.root.2

  some_element : 0 < length K.shape.elements
  some_element = slice_get_within K.shape.elements 0 P.root.0 P.root.1

  is_there : (e p : ℕ) → IsParent K.shape.elements p e → e < length K.shape.elements
  is_there e p k = slice_get_within K.shape.elements e k.0 k.1

  -- parents have lower numbers
  lower : (e p : ℕ) → IsParent K.shape.elements p e → p < e
  lower zero p k = let bad : None ≡ Some p = sym root_free ∙ parent_is 0 p k in cc
  lower (suc e) p k =
      let q = P.parented (suc e) (omega arith) (is_there (suc e) p k) in
      let same : q.0 ≡ p = same_Some _ _ (sym (parent_is (suc e) q.0 q.1) ∙ parent_is (suc e) p k) in
      let lt : q.0 < suc e = q.2 in omega arith

  pub rising : (e p : ℕ) → e < how_many K → (tree_of K).parent e ≡ Some p → p < e
  rising e p lt h = lower e p (parent_back e p h)

  -- the steps to element 0 are counted
  steps_are : (f n e : ℕ) → e < f → IsUnder K.shape.elements 0 n e → steps_up K.shape.elements f e ≡ n
  steps_are zero n e lt u = absurd (omega arith)
  steps_are (suc f) zero e lt u = ap (λ z. above_it (steps_up K.shape.elements f) (parent_of (slice_get K.shape.elements z))) u
      ∙ ap (above_it (steps_up K.shape.elements f)) root_free
  steps_are (suc f) (suc n) e lt u =
      let a : u.0 < e = lower e u.0 u.1 in
      ap (above_it (steps_up K.shape.elements f)) (parent_is e u.0 u.1) ∙ ap suc (steps_are f n u.0 (omega arith) u.2)

  abbrev pub depth_of : ℕ → ℕ
  depth_of e = P.levels - steps_up K.shape.elements (length K.shape.elements) e

  under_there : (n e : ℕ) → IsUnder K.shape.elements 0 n e → e < length K.shape.elements
  under_there zero e u = subst (λ z. z < length K.shape.elements) (sym u) some_element
  under_there (suc n) e u = is_there e u.0 u.1

  -- each element is under element 0
  under_root : (f e : ℕ) → e < f → e < length K.shape.elements → (n : ℕ) × IsUnder K.shape.elements 0 n e
  under_root zero e lt there = absurd (omega arith)
  under_root (suc f) zero lt there = (0, refl)
  under_root (suc f) (suc e) lt there =
      let q = P.parented (suc e) (omega arith) there in
      let a : q.0 < suc e = q.2 in
      let k = under_root f q.0 (omega arith) (omega arith) in
      (suc k.0, (q.0, q.1, k.1))

  under_both : (s n e l : ℕ) → IsUnder K.shape.elements e s l → IsUnder K.shape.elements 0 n e → (m : ℕ) × (m ≡ s + n) × IsUnder K.shape.elements 0 m l
  under_both zero n e l u d = (n, omega arith, subst (IsUnder K.shape.elements 0 n) (sym u) d)
  under_both (suc s) n e l u d =
      let k = under_both s n e u.0 u.2 d in
      let same : k.0 ≡ s + n = k.1 in
      (suc k.0, omega arith, (u.0, u.1, k.2))

  one_count : (n m e : ℕ) → IsUnder K.shape.elements 0 n e → IsUnder K.shape.elements 0 m e → n ≡ m
  one_count n m e u d = let there = under_there n e u in sym (steps_are (length K.shape.elements) n e there u) ∙ steps_are (length K.shape.elements) m e there d

  -- an element has its first node under it, whose leaf is as deep as all leaves
  leaf_under : (e : ℕ) (x : Element) (h : slice_get K.shape.elements e ≡ Some x) (n : ℕ) → IsUnder K.shape.elements 0 n e → (P.first e x h).steps + n ≡ P.levels
  leaf_under e x h n u =
      let k = P.first e x h in
      let b = under_both k.steps n e k.leaf k.under u in
      let c : b.0 ≡ P.levels = one_count b.0 P.levels k.leaf b.2 (P.even x.first_node k.leaf k.has) in
      let d : b.0 ≡ k.steps + n = b.1 in omega arith

  -- so it is at most so many steps under element 0, and its depth is that many less
  pub depth_is : (e n : ℕ) → IsUnder K.shape.elements 0 n e → (n ≤ P.levels) × (depth_of e + n ≡ P.levels)
  depth_is e n u =
      let there = under_there n e u in
      let x = some_at K.shape.elements e there in
      let k = leaf_under e x.0 x.1 n u in
      let s : steps_up K.shape.elements (length K.shape.elements) e ≡ n = steps_are (length K.shape.elements) n e there u in
      (omega arith, omega arith)

  -- a rank's leaf
  node_at : (r : ℕ) → r < ranks_in K → (n : ℕ) × (slice_get K.shape.node_of r ≡ Some n) × (slice_index K.shape.node_of r ≡ n) × (n < K.shape.nodes)
  node_at r lt =
      let k = some_at K.shape.node_of r lt in
      (k.0, k.1, get_or_from_slice_get K.shape.node_of r k.0 0 k.1, P.sits r k.0 k.1)

  pub seated : (r : ℕ) → r < ranks_in K → slice_index K.shape.node_of r < K.shape.nodes
  seated r lt = let k = node_at r lt in let a : slice_index K.shape.node_of r ≡ k.0 = k.2 in let b : k.0 < K.shape.nodes = k.3 in omega arith

  leaf_at : (r : ℕ) → r < ranks_in K → (n : ℕ) × (slice_get K.shape.leaf_of n ≡ Some (leaf_of_rank K r))
  leaf_at r lt =
      let k = node_at r lt in
      let b : k.0 < K.shape.nodes = k.3 in
      let c : length K.shape.leaf_of ≡ K.shape.nodes = P.each_node in
      let l = some_at K.shape.leaf_of k.0 (omega arith) in
      let is : leaf_of_rank K r ≡ l.0 = ap (slice_index K.shape.leaf_of) k.2 ∙ get_or_from_slice_get K.shape.leaf_of k.0 l.0 0 l.1 in
      (k.0, l.1 ∙ ap Some (sym is))

  leaf_deep : (r : ℕ) → r < ranks_in K → IsUnder K.shape.elements 0 P.levels (leaf_of_rank K r)
  leaf_deep r lt = let k = leaf_at r lt in P.even k.0 (leaf_of_rank K r) k.1

  -- a path goes up step by step
  path_under : (l j n m : ℕ) → m ≡ j + n → IsUnder K.shape.elements 0 m l → IsUnder K.shape.elements 0 n (path (tree_of K) l j)
  path_under l zero n m e u = let same : m ≡ n = omega arith in subst (λ z. IsUnder K.shape.elements 0 z l) same u
  path_under l (suc j) n m e u =
      let k = path_under l j (suc n) m (omega arith) u in
      subst (IsUnder K.shape.elements 0 n) (sym (ap (λ o. unwrap_or o 0) (parent_is (path (tree_of K) l j) k.0 k.1))) k.2

  path_at : (r j n : ℕ) → r < ranks_in K → P.levels ≡ j + n → IsUnder K.shape.elements 0 n (path (tree_of K) (leaf_of_rank K r) j)
  path_at r j n lt e = path_under (leaf_of_rank K r) j n P.levels e (leaf_deep r lt)

  path_shift : (l p j : ℕ) → (tree_of K).parent l ≡ Some p → path (tree_of K) l (suc j) ≡ path (tree_of K) p j
  path_shift l p zero e = ap (λ o. unwrap_or o 0) e
  path_shift l p (suc j) e = ap (λ z. unwrap_or ((tree_of K).parent z) 0) (path_shift l p j e)

  path_top : (s e l : ℕ) → IsUnder K.shape.elements e s l → path (tree_of K) l s ≡ e
  path_top zero e l u = u
  path_top (suc s) e l u = path_shift l u.0 s (parent_is l u.0 u.1) ∙ path_top s e u.0 u.2

  pub path_root : (r : ℕ) → r < ranks_in K → path (tree_of K) (leaf_of_rank K r) P.levels ≡ 0
  path_root r lt = path_at r P.levels 0 lt (omega arith)

  -- THE TREE
  pub is_treed : IsTreed K P.levels
  is_treed =
      record {
        depth = depth_of;
        there = λ r j h le. under_there (P.levels - j) (path (tree_of K) (leaf_of_rank K r) j) (path_at r j (P.levels - j) h (omega arith));
        deep = λ r j h le. let k = depth_is (path (tree_of K) (leaf_of_rank K r) j) (P.levels - j)
            (path_at r j (P.levels - j) h (omega arith)) in let d : depth_of (path (tree_of K) (leaf_of_rank K r) j) + (P.levels - j) ≡
            P.levels = k.1 in omega arith;
        up = λ r j h lt. path_step r j (P.levels - suc j) h (omega arith);
        top = λ r h. ap (λ z. parent_of (slice_get K.shape.elements z)) (path_root r h) ∙ root_free;
        node = λ e there h. node_low e h;
        leaf = λ r h. let k = leaf_at r h in at_stands K.shape.leaf_of k.0 (leaf_of_rank K r) k.1;
        over = λ e p there h. over_it e p there h;
      } where
        path_step : (r j n : ℕ) → r < ranks_in K → P.levels ≡ j + suc n →
            parent_of (slice_get K.shape.elements (path (tree_of K) (leaf_of_rank K r) j)) ≡ Some
            (path (tree_of K) (leaf_of_rank K r) (suc j))
        path_step r j n h e =
            let k = path_at r j (suc n) h e in
            let a = parent_is (path (tree_of K) (leaf_of_rank K r) j) k.0 k.1 in
            a ∙ ap Some (sym (ap (λ o. unwrap_or o 0) a))

        node_low : (e : ℕ) → is_node K e ≡ true → depth_of e ≡ 0
        node_low e h =
            let n = stands_at K.shape.leaf_of e h in
            let k = depth_is e P.levels (P.even n.0 e n.1) in let d : depth_of e + P.levels ≡ P.levels = k.1 in omega arith

        over_it : (e p : ℕ) → e < how_many K → parent_of (slice_get K.shape.elements e) ≡ Some p → (p < how_many K) × (depth_of p ≡ suc (depth_of e))
        over_it e p there h =
            let par = parent_back e p h in
            let lt : p < e = lower e p par in
            let u = under_root (suc p) p (omega arith) (omega arith) in
            let a = depth_is p u.0 u.1 in
            let b = depth_is e (suc u.0) (p, par, u.1) in
            let c : depth_of p + u.0 ≡ P.levels = a.1 in
            let d : depth_of e + suc u.0 ≡ P.levels = b.1 in
            (omega arith, omega arith)

  -- each element is on the path of some rank
  pub reached : (e : ℕ) → e < how_many K → (r : ℕ) × (j : ℕ) × (r < ranks_in K) × (j ≤ P.levels) × (e ≡ path (tree_of K) (leaf_of_rank K r) j)
  reached e there =
      let x = some_at K.shape.elements e there in
      let k = P.first e x.0 x.1 in
      let u = under_root (suc e) e (omega arith) there in
      let a = leaf_under e x.0 x.1 u.0 u.1 in
      let d : k.steps + u.0 ≡ P.levels = a in
      let f : x.0.first_node < length K.shape.leaf_of = slice_get_within K.shape.leaf_of x.0.first_node k.leaf k.has in
      let c : length K.shape.leaf_of ≡ K.shape.nodes = P.each_node in
      let r = P.used x.0.first_node (omega arith) in
      let leaf : leaf_of_rank K r.0 ≡ k.leaf = ap (slice_index K.shape.leaf_of)
      (get_or_from_slice_get K.shape.node_of r.0 x.0.first_node 0 r.1)
      ∙ get_or_from_slice_get K.shape.leaf_of x.0.first_node k.leaf 0 k.has in
      let up : path (tree_of K) k.leaf k.steps ≡ e = path_top k.steps e k.leaf k.under in
      (r.0, k.steps, slice_get_within K.shape.node_of r.0 x.0.first_node r.1, omega arith, sym up ∙ ap (λ z. path (tree_of K) z k.steps) (sym leaf))

  -- and its first node is there
  pub first_there : (e : ℕ) → e < how_many K → first_node_of (slice_get K.shape.elements e) < K.shape.nodes
  first_there e there =
      let x = some_at K.shape.elements e there in
      let k = P.first e x.0 x.1 in
      let f : x.0.first_node < length K.shape.leaf_of = slice_get_within K.shape.leaf_of x.0.first_node k.leaf k.has in
      let c : length K.shape.leaf_of ≡ K.shape.nodes = P.each_node in
      let is : first_node_of (slice_get K.shape.elements e) ≡ x.0.first_node = ap first_node_of x.1 in omega arith

  -- depths as they are counted, and levels: the steps of the first node's leaf
  pub depth_same : (e : ℕ) → is_treed.depth e ≡ depth_of e
  unfolding is_treed
  depth_same e = refl

  pub levels_are : steps_up K.shape.elements (length K.shape.elements) (slice_index K.shape.leaf_of 0) ≡ P.levels
  levels_are =
      let some : 0 < length K.shape.node_of = P.some in
      let r = some_at K.shape.node_of 0 some in
      let a : r.0 < K.shape.nodes = P.sits 0 r.0 r.1 in
      let c : length K.shape.leaf_of ≡ K.shape.nodes = P.each_node in
      let l = some_at K.shape.leaf_of 0 (omega arith) in
      let u = P.even 0 l.0 l.1 in
      ap (steps_up K.shape.elements (length K.shape.elements)) (get_or_from_slice_get K.shape.leaf_of 0 l.0 0 l.1)
      ∙ steps_are (length K.shape.elements) P.levels l.0 (under_there P.levels l.0 u) u
