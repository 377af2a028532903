-- What a lock asks of its tree, whatever budget the root has.
use Rattle.std.specs.Prelude.{◌≡◌, ℕ, zero, suc, ◌-◌, ◌*◌, ◌<◌, ◌≤◌, List, length, slice_get, slice_index, true, false, Option, Some, None, is_some}
use Rattle.rl_word.specs.declared.shapes.Element.{Element}
use Rattle.rl_word.specs.Shapes.{TheShape, IsProper}
use Rattle.rl_step.specs.LockQueues.{parent_of, stands, budget_by}
use Rattle.rl_tree.specs.Tree.{path, is_none}
use Rattle.rl_tree.specs.declared.rooted.Rooted.{Rooted}
use Rattle.rl_tree.specs.Elements.{how_many, ranks_in, leaf_of_rank, is_node, first_node_of, names_in, tree_of}

-- What the tree of a proper shape is: each rank's path goes up to the root in so many steps, through elements that are there, and an
-- element's depth says at which level of a path it can stand.
pub record IsTreed (K : Rooted) (levels : ℕ) : Type 0 where
  pub depth : ℕ → ℕ
  pub there : (r j : ℕ) → r < ranks_in K → j ≤ levels → path (tree_of K) (leaf_of_rank K r) j < how_many K
  pub deep : (r j : ℕ) → r < ranks_in K → j ≤ levels → depth (path (tree_of K) (leaf_of_rank K r) j) ≡ j
  pub up : (r j : ℕ) → r < ranks_in K → j < levels → (tree_of K).parent (path (tree_of K) (leaf_of_rank K r) j) ≡ Some
      (path (tree_of K) (leaf_of_rank K r) (suc j))
  pub top : (r : ℕ) → r < ranks_in K → (tree_of K).parent (path (tree_of K) (leaf_of_rank K r) levels) ≡ None
  pub node : (e : ℕ) → e < how_many K → is_node K e ≡ true → depth e ≡ 0
  pub leaf : (r : ℕ) → r < ranks_in K → is_node K (leaf_of_rank K r) ≡ true
  pub over : (e p : ℕ) → e < how_many K → (tree_of K).parent e ≡ Some p → (p < how_many K) × (depth p ≡ suc (depth e))

-- A tree of one to three levels, in which each element but the root has a budget; parents have lower numbers; all paths end at element 0,
-- and where there is one rank each element is on its path; there are 32 ranks at most, and four elements at most for each; budgets are
-- 1000 at most; and the words' homes are there.
pub record IsWellShaped (K : Rooted) (levels : ℕ) : Type 0 where
  pub treed : IsTreed K levels
  pub high : 1 ≤ levels
  pub low : levels ≤ 3
  pub some : 0 < how_many K
  pub one_root : (r : ℕ) → r < ranks_in K → path (tree_of K) (leaf_of_rank K r) levels ≡ 0
  pub root_free : (tree_of K).parent 0 ≡ None
  pub budgeted : (e p : ℕ) → e < how_many K → (tree_of K).parent e ≡ Some p → is_some (names_in K e).budget ≡ true
  pub rising : (e p : ℕ) → e < how_many K → (tree_of K).parent e ≡ Some p → p < e
  pub lonely : (e : ℕ) → ranks_in K ≡ 1 → e < how_many K → e ≡ path (tree_of K) (leaf_of_rank K 0) (treed.depth e)
  pub few : how_many K ≤ ranks_in K * 4
  pub homed : K.home < K.shape.nodes
  pub first_there : (e : ℕ) → e < how_many K → first_node_of (slice_get K.shape.elements e) < K.shape.nodes
  pub seated : (r : ℕ) → r < ranks_in K → slice_index K.shape.node_of r < K.shape.nodes
  pub ranks : ranks_in K ≤ 32
  pub modest : (q b : ℕ) → (names_in K q).budget ≡ Some b → b ≤ 1000

-- every element but the root has a budget
abbrev pub IsBudgeted : TheShape → Type 0
IsBudgeted shape = (e : ℕ) → 0 < e → e < length shape.elements → is_some (budget_by (slice_get shape.elements e)) ≡ true

-- every element but the root has a parent
abbrev pub IsParented : Rooted → Type 0
IsParented K = (e : ℕ) → 0 < e → e < how_many K → is_none ((tree_of K).parent e) ≡ false

-- how many steps an element is under one without a parent, in at most so many
abbrev pub above_it : (ℕ → ℕ) → Option ℕ → ℕ
above_it h None = 0
above_it h (Some p) = suc (h p)

abbrev pub steps_up : List Element → ℕ → ℕ → ℕ
steps_up es zero e = 0
steps_up es (suc f) e = above_it (steps_up es f) (parent_of (slice_get es e))

-- the levels of a proper shape
abbrev pub levels_of : TheShape → ℕ
levels_of shape = steps_up shape.elements (length shape.elements) (slice_index shape.leaf_of 0)

-- the level of an element in a tree of so many levels: that of the nodes is 0
abbrev pub level_in : Rooted → ℕ → ℕ → ℕ
level_in K levels e = levels - steps_up K.shape.elements (how_many K) e

-- The same as one fact about the lists, with nothing in it but facts: so a lock can keep it.
pub record IsTreeLaid (K : Rooted) (levels : ℕ) : Type 0 where
  pub there : (r j : ℕ) → r < ranks_in K → j ≤ levels → path (tree_of K) (leaf_of_rank K r) j < how_many K
  pub deep : (r j : ℕ) → r < ranks_in K → j ≤ levels → level_in K levels (path (tree_of K) (leaf_of_rank K r) j) ≡ j
  pub up : (r j : ℕ) → r < ranks_in K → j < levels → parent_of (slice_get K.shape.elements (path (tree_of K) (leaf_of_rank K r) j)) ≡ Some
      (path (tree_of K) (leaf_of_rank K r) (suc j))
  pub top : (r : ℕ) → r < ranks_in K → path (tree_of K) (leaf_of_rank K r) levels ≡ 0
  pub node : (e : ℕ) → e < how_many K → stands K.shape.leaf_of e ≡ true → level_in K levels e ≡ 0
  pub leaf : (r : ℕ) → r < ranks_in K → stands K.shape.leaf_of (leaf_of_rank K r) ≡ true
  pub over : (e p : ℕ) → e < how_many K → parent_of (slice_get K.shape.elements e) ≡ Some p → level_in K levels p ≡ suc (level_in K levels e)
  pub rising : (e p : ℕ) → e < how_many K → parent_of (slice_get K.shape.elements e) ≡ Some p → p < e
  pub root_free : parent_of (slice_get K.shape.elements 0) ≡ None
  pub high : 1 ≤ levels
  pub low : levels ≤ 3
  pub budgeted : (e : ℕ) → 0 < e → e < how_many K → is_some (budget_by (slice_get K.shape.elements e)) ≡ true
  pub lonely : (e : ℕ) → ranks_in K ≡ 1 → e < how_many K → e ≡ path (tree_of K) (leaf_of_rank K 0) (level_in K levels e)
  pub few : how_many K ≤ ranks_in K * 4
  pub some : 0 < how_many K
  pub ranks : ranks_in K ≤ 32
  pub homed : K.home < K.shape.nodes
  pub first_there : (e : ℕ) → e < how_many K → first_node_of (slice_get K.shape.elements e) < K.shape.nodes
  pub seated : (r : ℕ) → r < ranks_in K → slice_index K.shape.node_of r < K.shape.nodes
  pub leafed : (r : ℕ) → r < ranks_in K → slice_index K.shape.node_of r < length K.shape.leaf_of
  pub modest : (q b : ℕ) → (names_in K q).budget ≡ Some b → b ≤ 1000

-- a proper shape that holds the home is that, with a budget on every element but the root, and a modest one at the root if any
abbrev pub ProperIsWellShaped : Type 0
ProperIsWellShaped = (K : Rooted) → IsProper K.shape → K.home < K.shape.nodes → IsBudgeted K.shape →
    ((b : ℕ) → K.root ≡ Some b → b ≤ 1000) → IsWellShaped K (levels_of K.shape)
