-- A rank goes on in a tree: it isn't stuck at the queue where it works.
use Rattle.std.specs.Prelude.{◌≡◌, ℕ, Bool, true, false, List, slice_get, slice_index, Some}
use Rattle.rl_queue.specs.declared.view.Phase.{Phase}
use Rattle.rl_queue.specs.Lane.{Busy}
use Rattle.rl_queue.specs.Queue.{queue_next_word, status_word}
use Rattle.rl_tree.specs.declared.view.TreeView.{TreeView}
use Rattle.rl_tree.specs.Tree.{path, works_for}
use Rattle.rl_tree.specs.declared.rooted.Rooted.{Rooted}
use Rattle.rl_tree.specs.Elements.{names_in, tree_of}
use Rattle.rl_queue.specs.laws.Stuck.{Stuck}

module _ (K : Rooted) (ws : List ℕ) where
  -- member m of queue q isn't stuck in this phase
  abbrev pub IsFree : ℕ → ℕ → Phase → Type 0
  IsFree q m p = Stuck p (slice_index ws (queue_next_word (names_in K q) m)) (slice_index ws (status_word (names_in K q) m)) → ⊥

  -- a rank that loads a status goes on; else it uses the queue and isn't stuck
  abbrev pub GoesIn : Bool → ℕ → ℕ → Phase → Type 0
  GoesIn true q m p = Unit {0}
  GoesIn false q m p = Busy p × IsFree q m p

  pub record RankGoes (vs : List TreeView) (r : ℕ) : Type 0 where
    pub view : TreeView
    pub has : slice_get vs r ≡ Some view
    pub goes : GoesIn view.query (path (tree_of K) view.leaf view.level) (works_for (tree_of K) view view.level) view.phase
