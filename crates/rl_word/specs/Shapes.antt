-- A shape as plain lists, and which shapes are proper: where ranks sit, and how nodes are grouped into a tree of elements.
use Rattle.std.specs.Prelude.{◌≡◌, ℕ, zero, suc, ◌<◌, ◌≤◌, List, length, slice_get, Some, None}
use Rattle.rl_word.specs.declared.shapes.Element.{Element}
use Rattle.rl_word.specs.Acts.{Layout}

-- the node of each rank, the number of nodes, the element of each node, and the elements
pub record TheShape : Type 0 where
  pub node_of : List ℕ
  pub nodes : ℕ
  pub leaf_of : List ℕ
  pub elements : List Element

-- where its ranks sit
abbrev pub layout_of : TheShape → Layout
layout_of s = record { node_of = s.node_of; nodes = s.nodes }

-- p is the parent of element e
abbrev pub IsParent : List Element → ℕ → ℕ → Type 0
IsParent elements p e = (x : Element) × (slice_get elements e ≡ Some x) × (x.parent ≡ Some p)

-- element e is so many steps under element top
abbrev pub IsUnder : List Element → ℕ → ℕ → ℕ → Type 0
IsUnder elements top zero e = e ≡ top
IsUnder elements top (suc steps) e = (p : ℕ) × IsParent elements p e × IsUnder elements top steps p

-- e is an element that is nobody's parent
pub record IsLeaf (elements : List Element) (e : ℕ) : Type 0 where
  pub there : e < length elements
  pub childless : (c : ℕ) → IsParent elements e c → ⊥

-- node n is under element e: so is its leaf, by some number of steps
pub record IsNodeUnder (s : TheShape) (e n : ℕ) : Type 0 where
  pub leaf : ℕ
  pub has : slice_get s.leaf_of n ≡ Some leaf
  pub steps : ℕ
  pub under : IsUnder s.elements e steps leaf

-- A shape is proper where its ranks sit on its nodes and its elements are a tree whose leaves are its nodes.
pub record IsProper (s : TheShape) : Type 0 where
  -- 1 to 32 ranks
  pub some : 0 < length s.node_of
  pub few : length s.node_of ≤ 32
  -- each rank sits on a node, and each node has a rank
  pub sits : (r n : ℕ) → slice_get s.node_of r ≡ Some n → n < s.nodes
  pub used : (n : ℕ) → n < s.nodes → (r : ℕ) × (slice_get s.node_of r ≡ Some n)
  -- element 0 has no parent, and every other element has one with a lower number
  pub root : (x : Element) × (slice_get s.elements 0 ≡ Some x) × (x.parent ≡ None)
  pub parented : (e : ℕ) → 0 < e → e < length s.elements → (p : ℕ) × IsParent s.elements p e × (p < e)
  -- each node has a leaf, each leaf is that of a node, and no two nodes have the same
  pub each_node : length s.leaf_of ≡ s.nodes
  pub leaves : (n e : ℕ) → slice_get s.leaf_of n ≡ Some e → IsLeaf s.elements e
  pub all_leaves : (e : ℕ) → IsLeaf s.elements e → (n : ℕ) × (slice_get s.leaf_of n ≡ Some e)
  pub once : (m n e : ℕ) → slice_get s.leaf_of m ≡ Some e → slice_get s.leaf_of n ≡ Some e → m ≡ n
  -- all leaves are equally many steps, 1 to 3, under element 0
  pub levels : ℕ
  pub deep : 1 ≤ levels
  pub shallow : levels ≤ 3
  pub even : (n e : ℕ) → slice_get s.leaf_of n ≡ Some e → IsUnder s.elements 0 levels e
  -- an element's first node is the lowest-numbered node under it
  pub first : (e : ℕ) (x : Element) → slice_get s.elements e ≡ Some x → IsNodeUnder s e x.first_node
  pub lowest : (e n : ℕ) (x : Element) → slice_get s.elements e ≡ Some x → IsNodeUnder s e n → x.first_node ≤ n
  -- budgets are at most 1000
  pub budgets : (e b : ℕ) (x : Element) → slice_get s.elements e ≡ Some x → x.budget ≡ Some b → b ≤ 1000
