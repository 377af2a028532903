-- The shape of a proper placement is proper.
use Rattle.std.proofs.Common.{◌≡◌, ℕ, zero, suc, ◌+◌, ◌-◌, ◌<◌, ◌≤◌, Bool, true, false, cond, eqb, List, [], ◌∷◌, length, map, get_or, Some, None, Result, Ok, Err, ◌⊎◌, inl, inr, true≢false, refl, sym, ap, subst, ◌∙◌, arith}
use Rattle.std.specs.List.{AllByRecursion, slice_get, position}
use Rattle.std.specs.Prelude.{nat_lt, nat_le, IfOk}
use Rattle.std.proofs.lemmas.Bool.{ne_eqb, ltb-true, ltb-false, lt-ltb, leb-true, leb-false}
use Rattle.std.proofs.lemmas.List.{length-map}
use Rattle.std.proofs.lemmas.List.Quantifiers.{position-Some}
use Rattle.std.proofs.lemmas.List.Sums.{fails_before_first}
use Rattle.std.proofs.lemmas.Option.{same_Some, slice_get_within, get_or_from_slice_get, slice_get-get_or}
use Rattle.rl_word.specs.declared.shapes.Element.{Element}
use Rattle.rl_word.specs.laws.Places.{get_map, get_map_back, some_at}
use Rattle.rl_word.specs.Shapes.{TheShape, IsParent, IsUnder, IsLeaf, IsNodeUnder, IsProper as IsProperShape}
use Rattle.rl_place.specs.declared.limits.TheConstants.{MOST_BUDGET, MOST_RANKS}
use Rattle.rl_place.specs.declared.path.Path.{Path}
use Rattle.rl_place.specs.declared.lock.Lock.{Lock}
use Rattle.rl_place.specs.declared.lock.Lock.TheVariants.{Spin, Dmcs, Alock, Mcs, Rw, Seq, Combine}
use Rattle.rl_place.specs.Paths.{IsPath, root_path, prefix}
use Rattle.rl_place.specs.Numbering.{same_path, node_paths, element_paths}
use Rattle.rl_place.specs.Places.{ThePlace, IsProper, LockFits}
use Rattle.rl_place.specs.Shapes.{number_in, parent_in, first_node_in, level_budget, budget_of, element_of, shape_of}
use Rattle.rl_place.proofs.NodeLaws.{same_path-is, same_path-same}
use Rattle.rl_place.proofs.PrefixLaws.{IsTrim, trim-path, prefix-trim, prefix-whole, prefix-prefix}
use Rattle.rl_place.proofs.SeenLaws.{IsIn, number_is}
use Rattle.rl_place.proofs.NumberingLaws.{NodesAre, nodes-are, IsFrom, ElementsAre, elements-are}

-- what the proofs below stand on: paths, nodes and elements, and that each path has so many numbers
pub record Setting (levels : ℕ) (lock : Lock) (paths nodes names : List Path) : Type 0 where
  pub some_levels : 1 ≤ levels
  pub most_levels : levels ≤ 3
  pub fits : LockFits levels lock
  pub trim : (r : ℕ) (p : Path) → slice_get paths r ≡ Some p → IsTrim p
  pub deep : (r : ℕ) (p : Path) → slice_get paths r ≡ Some p → p.len ≡ levels
  pub are_nodes : NodesAre paths nodes
  pub are_elements : ElementsAre paths names

all-at : {X : Type 0} (Q : X → Type 0) (xs : List X) (i : ℕ) (x : X) → AllByRecursion Q xs → slice_get xs i ≡ Some x → Q x
all-at Q [] i x all h = absurd cc
all-at Q (y ∷ xs) zero x all h = subst (λ z. Q z) (same_Some y x h) all.0
all-at Q (y ∷ xs) (suc i) x all h = all-at Q xs i x all.1 h

module _ (levels : ℕ) (lock : Lock) (paths nodes names : List Path) (s : Setting levels lock paths nodes names) where
  abbrev elements : List Element
  elements = map (element_of lock nodes names) names

  -- ---- names

  -- a name is the first numbers of a path, and no longer
  trim-name : (e : ℕ) (p : Path) → slice_get names e ≡ Some p → IsTrim p
  trim-name e p h =
      let f = s.are_elements.are.of e p h in
      subst (λ (q : Path). IsTrim q) (sym f.is) (prefix-trim f.path p.len (s.trim f.there.0 f.path f.there.1) f.most)

  short-name : (e : ℕ) (p : Path) → slice_get names e ≡ Some p → p.len ≤ levels
  short-name e p h =
      let f = s.are_elements.are.of e p h in
      omega (arith, f.most, s.deep f.there.0 f.path f.there.1)

  -- the groups of a name are names
  group-in : (e : ℕ) (p : Path) (k : ℕ) → slice_get names e ≡ Some p → k ≤ p.len → IsIn names (prefix p k)
  group-in e p k h less =
      let f = s.are_elements.are.of e p h in
      let i = s.are_elements.each f.there.0 f.path f.there.1 k (omega (arith, less, f.most)) in
      let same : prefix p k ≡ prefix f.path k = ap (λ (q : Path). prefix q k) f.is ∙ prefix-prefix f.path k p.len (s.trim f.there.0 f.path f.there.1) less f.most in
      (i.0, i.1 ∙ ap (λ (q : Path). Some q) (sym same))

  -- the number of a name is its place
  number-name : (e : ℕ) (p : Path) → slice_get names e ≡ Some p → number_in names p ≡ e
  number-name e p h = number_is names p e s.are_elements.are.once h

  -- a name of no numbers is the root's, whose number is 0
  none-root : (e : ℕ) (p : Path) → slice_get names e ≡ Some p → p.len ≡ 0 → e ≡ 0
  none-root zero p h none = refl
  none-root (suc e) p h none = absurd (omega (arith, none, (s.are_elements.are.above (suc e) p (omega arith) h).some))

  -- ---- parents

  -- the element above e is that of one number fewer
  pub record Up (e q : ℕ) : Type 0 where
    pub name : Path
    pub at : slice_get names e ≡ Some name
    pub some : 1 ≤ name.len
    pub is : slice_get names q ≡ Some (prefix name (name.len - 1))

  some_parent : (b : Bool) (n q : ℕ) → cond b None (Some n) ≡ Some q → (b ≡ false) × (n ≡ q)
  some_parent true n q h = absurd cc
  some_parent false n q h = (refl, same_Some n q h)

  parent-up : (q e : ℕ) → IsParent elements q e → Up e q
  parent-up q e h =
      let back = get_map_back (element_of lock nodes names) names e h.0 h.1 in
      let name = back.0 in
      let parent : parent_in names name ≡ Some q = ap (λ (x : Element). x.parent) back.2 ∙ h.2 in
      let p = some_parent (eqb name.len 0) (number_in names (prefix name (name.len - 1))) q parent in
      let some : 1 ≤ name.len = positive name.len p.0 in
      let up = group-in e name (name.len - 1) back.1 (omega arith) in
      record {
        name = name;
        at = back.1;
        some = some;
        is = subst (λ (k : ℕ). slice_get names k ≡ Some (prefix name (name.len - 1))) (sym (number-name up.0 _ up.1) ∙ p.1) up.1;
      }
    where
      positive : (n : ℕ) → eqb n 0 ≡ false → 1 ≤ n
      positive zero e = absurd cc
      positive (suc n) e = omega arith

  up-parent : (e q : ℕ) (p : Path) → slice_get names e ≡ Some p → 1 ≤ p.len → slice_get names q ≡ Some (prefix p (p.len - 1)) → IsParent elements q e
  up-parent e q p h some up =
      let at = get_map (element_of lock nodes names) names e p h in
      let not_root : eqb p.len 0 ≡ false = ne_eqb p.len 0 (λ z. omega (arith, z, some)) in
      let parent : parent_in names p ≡ Some q = rw not_root (ap (λ (k : ℕ). Some k) (number-name q _ up)) in
      (element_of lock nodes names p, at, parent)

  -- an element lies its number of numbers under the root
  under-root : (k e : ℕ) (p : Path) → slice_get names e ≡ Some p → p.len ≡ k → IsUnder elements 0 k e
  under-root zero e p h len = none-root e p h len
  under-root (suc k) e p h len =
      let up = group-in e p (p.len - 1) h (omega arith) in
      (up.0, up-parent e up.0 p h (omega (arith, len)) up.1, under-root k up.0 (prefix p (p.len - 1)) up.1 (omega (arith, len)))

  -- from an element up to one of its groups
  under-group : (k e j : ℕ) (p : Path) → slice_get names e ≡ Some p → k ≤ p.len → slice_get names j ≡ Some (prefix p (p.len - k)) → IsUnder elements j k e
  under-group zero e j p h less at =
      let same : prefix p (p.len - 0) ≡ p = ap (λ (n : ℕ). prefix p n) (omega arith) ∙ prefix-whole p (trim-name e p h) in
      s.are_elements.are.once e j p h (at ∙ ap (λ (q : Path). Some q) same)
  under-group (suc k) e j p h less at =
      let up = group-in e p (p.len - 1) h (omega arith) in
      let above = prefix p (p.len - 1) in
      let same : prefix above (p.len - 1 - k) ≡ prefix p (p.len - suc k) =
      prefix-prefix p (p.len - 1 - k) (p.len - 1) (trim-name e p h) (omega arith) (omega arith) ∙ ap (λ (n : ℕ). prefix p n) (omega arith) in
      (up.0, up-parent e up.0 p h (omega (arith, less)) up.1, under-group k up.0 j above up.1 (omega (arith, less)) (at ∙ ap (λ (q : Path). Some q) (sym same)))

  -- and what lies above an element is one of its groups
  pub record Group (p : Path) (steps e : ℕ) : Type 0 where
    pub few : steps ≤ p.len
    pub is : slice_get names e ≡ Some (prefix p (p.len - steps))

  group-under : (steps e l : ℕ) (p : Path) → slice_get names l ≡ Some p → IsUnder elements e steps l → Group p steps e
  group-under zero e l p h under =
      let same : prefix p (p.len - 0) ≡ p = ap (λ (n : ℕ). prefix p n) (omega arith) ∙ prefix-whole p (trim-name l p h) in
      record { few = omega arith; is = ap (slice_get names) (sym under) ∙ h ∙ ap (λ (q : Path). Some q) (sym same) }
  group-under (suc steps) e l p h under =
      let up = parent-up under.0 l under.1 in
      let name : up.name ≡ p = same_Some up.name p (sym up.at ∙ h) in
      let above = prefix p (p.len - 1) in
      let at : slice_get names under.0 ≡ Some above = up.is ∙ ap (λ (q : Path). Some (prefix q (q.len - 1))) name in
      let g = group-under steps e under.0 above at under.2 in
      let some : 1 ≤ p.len = omega (arith, up.some, ap (λ (q : Path). q.len) name) in
      let same : prefix above (p.len - 1 - steps) ≡ prefix p (p.len - suc steps) =
      prefix-prefix p (p.len - 1 - steps) (p.len - 1) (trim-name l p h) (omega arith) (omega arith) ∙ ap (λ (n : ℕ). prefix p n) (omega arith) in
      record { few = omega (arith, g.few, some); is = g.is ∙ ap (λ (q : Path). Some q) same }

  -- ---- leaves

  -- a node is an element
  leaf-in : (n : ℕ) (p : Path) → slice_get nodes n ≡ Some p → IsIn names p
  leaf-in n p h =
      let r = s.are_nodes.of n p h in
      let i = s.are_elements.each r.0 p r.1 p.len (omega arith) in
      (i.0, i.1 ∙ ap (λ (q : Path). Some q) (prefix-whole p (s.trim r.0 p r.1)))

  deep-node : (n : ℕ) (p : Path) → slice_get nodes n ≡ Some p → p.len ≡ levels
  deep-node n p h = let r = s.are_nodes.of n p h in s.deep r.0 p r.1

  -- the element of a node is that of its path
  pub record Leaf (n e : ℕ) : Type 0 where
    pub node : Path
    pub at : slice_get nodes n ≡ Some node
    pub is : slice_get names e ≡ Some node

  leaf-of : (n e : ℕ) → slice_get (map (number_in names) nodes) n ≡ Some e → Leaf n e
  leaf-of n e h =
      let back = get_map_back (number_in names) nodes n e h in
      let i = leaf-in n back.0 back.1 in
      let same : i.0 ≡ e = sym (number-name i.0 back.0 i.1) ∙ back.2 in
      record { node = back.0; at = back.1; is = subst (λ (k : ℕ). slice_get names k ≡ Some back.0) same i.1 }

  leaf-has : (n e : ℕ) (p : Path) → slice_get nodes n ≡ Some p → slice_get names e ≡ Some p → slice_get (map (number_in names) nodes) n ≡ Some e
  leaf-has n e p at is = get_map (number_in names) nodes n p at ∙ ap (λ (k : ℕ). Some k) (number-name e p is)

  -- no element lies under a node
  childless : (n e c : ℕ) → Leaf n e → IsParent elements e c → ⊥
  childless n e c leaf h =
      let up = parent-up e c h in
      let same : leaf.node ≡ prefix up.name (up.name.len - 1) = same_Some _ _ (sym leaf.is ∙ up.is) in
      omega (arith, up.some, short-name c up.name up.at, deep-node n leaf.node leaf.at, ap (λ (q : Path). q.len) same)

  is-leaf : (n e : ℕ) → slice_get (map (number_in names) nodes) n ≡ Some e → IsLeaf elements e
  is-leaf n e h =
      let leaf = leaf-of n e h in
      record { there = omega (arith, slice_get_within names e leaf.node leaf.is, length-map names (element_of lock nodes names)); childless = λ c under. childless n e c leaf under }

  -- and an element under which no element lies is a node
  all-leaves : (e : ℕ) → IsLeaf elements e → (n : ℕ) × (slice_get (map (number_in names) nodes) n ≡ Some e)
  all-leaves e leaf =
      let at = some_at names e (omega (arith, leaf.there, length-map names (element_of lock nodes names))) in
      let p = at.0 in
      let f = s.are_elements.are.of e p at.1 in
      by p at.1 f (less_or_not p.len levels)
    where
      less_or_not : (m n : ℕ) → (m < n) ⊎ (n ≤ m)
      less_or_not m n = split (nat_lt m n) refl
        where
          split : (b : Bool) → nat_lt m n ≡ b → (m < n) ⊎ (n ≤ m)
          split true e = inl (ltb-true m n e)
          split false e = inr (ltb-false m n e)

      by : (p : Path) → slice_get names e ≡ Some p → IsFrom paths p → (p.len < levels) ⊎ (levels ≤ p.len) → (n : ℕ) × (slice_get (map (number_in names) nodes) n ≡ Some e)
      by p at f (inl less) =
          let trim = s.trim f.there.0 f.path f.there.1 in
          let depth = s.deep f.there.0 f.path f.there.1 in
          let below = s.are_elements.each f.there.0 f.path f.there.1 (p.len + 1) (omega (arith, less, depth)) in
          let q = prefix f.path (p.len + 1) in
          let up : prefix q (q.len - 1) ≡ p = ap (λ (k : ℕ). prefix q k) (omega arith) ∙ prefix-prefix f.path p.len (p.len + 1) trim (omega arith) (omega (arith, less, depth)) ∙ sym f.is in
          absurd (leaf.childless below.0 (up-parent below.0 e q below.1 (omega arith) (at ∙ ap (λ (x : Path). Some x) (sym up))))
      by p at f (inr whole) =
          let trim = s.trim f.there.0 f.path f.there.1 in
          let depth = s.deep f.there.0 f.path f.there.1 in
          let long : p.len ≡ f.path.len = omega (arith, whole, depth, f.most) in
          let same : p ≡ f.path = f.is ∙ ap (λ (k : ℕ). prefix f.path k) long ∙ prefix-whole f.path trim in
          let n = s.are_nodes.each f.there.0 f.path f.there.1 in
          (n.0, leaf-has n.0 e p (n.1 ∙ ap (λ (x : Path). Some x) (sym same)) at)

  leaf-once : (m n e : ℕ) → slice_get (map (number_in names) nodes) m ≡ Some e → slice_get (map (number_in names) nodes) n ≡ Some e → m ≡ n
  leaf-once m n e h k =
      let a = leaf-of m e h in
      let b = leaf-of n e k in
      s.are_nodes.once m n a.node a.at (b.at ∙ sym b.is ∙ a.is)

  -- ---- first nodes

  -- the node's path begins with a name
  abbrev begins_with : Path → Path → Bool
  begins_with name node = same_path name (prefix node name.len)

  first-most : (name node : Path) (n : ℕ) → slice_get nodes n ≡ Some node → name ≡ prefix node name.len → first_node_in nodes name ≤ n
  first-most name node n at is = split (nat_le (first_node_in nodes name) n) refl
    where
      passes : begins_with name (get_or nodes n root_path) ≡ true
      passes = ap (λ (q : Path). begins_with name q) (get_or_from_slice_get nodes n node root_path at) ∙ ap (λ (q : Path). same_path name q) (sym is) ∙ same_path-same name

      split : (b : Bool) → nat_le (first_node_in nodes name) n ≡ b → first_node_in nodes name ≤ n
      split true e = leb-true _ _ e
      split false e =
          let fails : begins_with name (get_or nodes n root_path) ≡ false = fails_before_first (begins_with name) nodes n root_path (omega (arith, leb-false _ _ e)) in
          absurd (true≢false (sym passes ∙ fails))

  pub record FirstNode (name : Path) : Type 0 where
    pub node : Path
    pub at : slice_get nodes (first_node_in nodes name) ≡ Some node
    pub is : prefix node name.len ≡ name

  first-node : (e : ℕ) (name : Path) → slice_get names e ≡ Some name → FirstNode name
  first-node e name h =
      let f = s.are_elements.are.of e name h in
      let m = s.are_nodes.each f.there.0 f.path f.there.1 in
      let most = first-most name f.path m.0 m.1 f.is in
      let within : first_node_in nodes name < length nodes = omega (arith, most, slice_get_within nodes m.0 f.path m.1) in
      let found : position (begins_with name) nodes ≡ Some (first_node_in nodes name) = rw (lt-ltb (first_node_in nodes name) (length nodes) within) refl in
      let passes = position-Some (begins_with name) nodes (first_node_in nodes name) root_path found in
      record {
        node = get_or nodes (first_node_in nodes name) root_path;
        at = slice_get-get_or nodes (first_node_in nodes name) root_path within;
        is = sym (same_path-is name (prefix (get_or nodes (first_node_in nodes name) root_path) name.len) passes.1);
      }

  -- ---- the shape

  abbrev shape : TheShape
  shape = record { node_of = map (number_in nodes) paths; nodes = length nodes; leaf_of = map (number_in names) nodes; elements = elements }

  first-under : (e : ℕ) (x : Element) → slice_get elements e ≡ Some x → IsNodeUnder shape e x.first_node
  first-under e x h =
      let back = get_map_back (element_of lock nodes names) names e x h in
      let name = back.0 in
      let f = first-node e name back.1 in
      let leaf = leaf-in (first_node_in nodes name) f.node f.at in
      let depth = deep-node (first_node_in nodes name) f.node f.at in
      let short = short-name e name back.1 in
      let up : prefix f.node (f.node.len - (levels - name.len)) ≡ name = ap (λ (k : ℕ). prefix f.node k) (omega (arith, depth, short)) ∙ f.is in
      let under : IsNodeUnder shape e (first_node_in nodes name) = record {
        leaf = leaf.0;
        has = leaf-has (first_node_in nodes name) leaf.0 f.node f.at leaf.1;
        steps = levels - name.len;
        under = under-group (levels - name.len) leaf.0 e f.node leaf.1 (omega (arith, depth)) (back.1 ∙ ap (λ (q : Path). Some q) (sym up));
      } in
      subst (λ (n : ℕ). IsNodeUnder shape e n) (ap (λ (y : Element). y.first_node) back.2) under

  first-lowest : (e n : ℕ) (x : Element) → slice_get elements e ≡ Some x → IsNodeUnder shape e n → x.first_node ≤ n
  first-lowest e n x h under =
      let back = get_map_back (element_of lock nodes names) names e x h in
      let name = back.0 in
      let leaf = leaf-of n under.leaf under.has in
      let g = group-under under.steps e under.leaf leaf.node leaf.is under.under in
      let is : name ≡ prefix leaf.node (leaf.node.len - under.steps) = same_Some name _ (sym back.1 ∙ g.is) in
      let len : leaf.node.len - under.steps ≡ name.len = sym (ap (λ (q : Path). q.len) is) in
      let begins : name ≡ prefix leaf.node name.len = is ∙ ap (λ (k : ℕ). prefix leaf.node k) len in
      let most = first-most name leaf.node n leaf.at begins in
      subst (λ (k : ℕ). k ≤ n) (ap (λ (y : Element). y.first_node) back.2) most

  -- ---- budgets

  level-small : (budgets : List ℕ) (n b : ℕ) → AllByRecursion (λ budget. budget ≤ MOST_BUDGET) budgets → level_budget budgets n ≡ Some b → b ≤ MOST_BUDGET
  level-small budgets n b small h = by (eqb n 0) h
    where
      by : (c : Bool) → cond c None (slice_get budgets (n - 1)) ≡ Some b → b ≤ MOST_BUDGET
      by true e = absurd cc
      by false e = all-at (λ budget. budget ≤ MOST_BUDGET) budgets (n - 1) b small e

  budget-small : (l : Lock) (n b : ℕ) → LockFits levels l → budget_of l n ≡ Some b → b ≤ MOST_BUDGET
  budget-small Spin n b fits h = absurd cc
  budget-small Dmcs n b fits h = absurd cc
  budget-small (Alock local remote) n b fits h = absurd cc
  budget-small (Seq local remote) n b fits h = absurd cc
  budget-small (Combine local remote) n b fits h = absurd cc
  budget-small (Mcs budgets) n b fits h = level-small budgets n b fits.small h
  budget-small (Rw budgets writers readers group) n b fits h = by (eqb n 0) h
    where
      by : (c : Bool) → cond c (Some writers) (level_budget budgets n) ≡ Some b → b ≤ MOST_BUDGET
      by true e = omega (arith, fits.most_writers, same_Some writers b e)
      by false e = level-small budgets n b fits.each.small e

  small : (e b : ℕ) (x : Element) → slice_get elements e ≡ Some x → x.budget ≡ Some b → b ≤ MOST_BUDGET
  small e b x h is =
      let back = get_map_back (element_of lock nodes names) names e x h in
      budget-small lock back.0.len b s.fits (ap (λ (y : Element). y.budget) back.2 ∙ is)

  pub shape-proper : 0 < length paths → length paths ≤ MOST_RANKS → IsProperShape shape
  shape-proper some few = record {
    some = omega (arith, some, length-map paths (number_in nodes));
    few = omega (arith, few, length-map paths (number_in nodes));
    sits = λ r n h.
        let back = get_map_back (number_in nodes) paths r n h in
        let i = s.are_nodes.each r back.0 back.1 in
        omega (arith, slice_get_within nodes i.0 back.0 i.1, number_is nodes back.0 i.0 s.are_nodes.once i.1, back.2);
    used = λ n h.
        let at = some_at nodes n h in
        let r = s.are_nodes.of n at.0 at.1 in
        (r.0, get_map (number_in nodes) paths r.0 at.0 r.1 ∙ ap (λ (k : ℕ). Some k) (number_is nodes at.0 n s.are_nodes.once at.1));
    root = (element_of lock nodes names root_path, get_map (element_of lock nodes names) names 0 root_path s.are_elements.are.root, refl);
    parented = λ e positive h.
        let at = some_at names e (omega (arith, h, length-map names (element_of lock nodes names))) in
        let a = s.are_elements.are.above e at.0 positive at.1 in
        (a.number, up-parent e a.number at.0 at.1 a.some a.is, a.lower);
    each_node = length-map nodes (number_in names);
    leaves = is-leaf;
    all_leaves = all-leaves;
    once = leaf-once;
    levels = levels;
    deep = s.some_levels;
    shallow = s.most_levels;
    even = λ n e h. let leaf = leaf-of n e h in under-root levels e leaf.node leaf.is (deep-node n leaf.node leaf.at);
    first = first-under;
    lowest = first-lowest;
    budgets = small;
  }

trim-all : (levels : ℕ) (paths : List Path) → AllByRecursion (λ p. IsPath levels p) paths → AllByRecursion IsTrim paths
trim-all levels [] proper = tt
trim-all levels (p ∷ paths) proper = (trim-path levels p proper.0, trim-all levels paths proper.1)

setting-of : (place : ThePlace) → IsProper place → Setting place.levels place.lock place.paths (node_paths place.paths) (element_paths place.paths)
setting-of place proper = record {
  some_levels = proper.some_levels;
  most_levels = proper.most_levels;
  fits = proper.lock;
  trim = λ r p h. trim-path place.levels p (all-at (λ q. IsPath place.levels q) place.paths r p proper.paths h);
  deep = λ r p h. let path = all-at (λ q. IsPath place.levels q) place.paths r p proper.paths h in ap (λ (q : Path). q.len) path.is ∙ path.count;
  are_nodes = nodes-are place.paths;
  are_elements = elements-are place.paths proper.some_ranks (trim-all place.levels place.paths proper.paths);
}

-- the shape of a proper placement is proper
pub proper-shape : (place : ThePlace) → IsProper place → IsProperShape (shape_of place)
proper-shape place proper =
    shape-proper place.levels place.lock place.paths (node_paths place.paths) (element_paths place.paths) (setting-of place proper) (omega (arith, proper.some_ranks)) proper.most_ranks

pub result-proper : {E : Type 0} (place : ThePlace) (r : Result TheShape E) → IsProper place → IfOk r (λ shape. shape ≡ shape_of place) → IfOk r (λ shape. IsProperShape shape)
result-proper place (Ok made) proper is = subst (λ (s : TheShape). IsProperShape s) (sym is) (proper-shape place proper)
result-proper place (Err e) proper is = tt
