-- RMA-MCS as plain functions: the lock that the tree of elements is by itself, whose root has no limit.
use Rattle.std.specs.Prelude.{◌≡◌, ℕ, Bool, true, false, length, slice_get, Some, None}
use Rattle.rl_word.specs.Shapes.{TheShape}
use Rattle.rl_step.specs.Lock.{LockTable, LockState, Told, no_local}
use Rattle.rl_queue.specs.declared.view.Phase.TheVariants.{Clear}
use Rattle.rl_queue.specs.Queue.{leave_at}
use Rattle.rl_tree.specs.declared.rooted.Rooted.{Rooted}
use Rattle.rl_tree.specs.declared.view.TreeView.{TreeView}
use Rattle.rl_tree.specs.Tree.{TheTree, at_level, tree_plan, tree_learn, at_hook, resume_by, tree_standing, with_entry}
use Rattle.rl_tree.specs.Elements.{how_many, ranks_in, leaf_of_rank, of_tree, tree_of, queues_from, tree_spot, out_at}
use Rattle.rl_tree.specs.TreeGood.{GoodAt}

-- the tree of a shape whose root has no limit
abbrev pub mcs_tree : ℕ → TheShape → Rooted
mcs_tree home shape = record { home = home; shape = shape; root = None }

-- where the tree stands at the hook above its root it goes on in the same act: nothing is above the root
abbrev pub past_hook : TheTree → Bool → Told TreeView → Told TreeView
past_hook T true u = resume_by T u.view u.view.phase u.events
past_hook T false u = u

abbrev pub mcs_learn : Rooted → TreeView → ℕ → Told TreeView
mcs_learn K v got = with_entry (past_hook (tree_of K) (at_hook (tree_learn (tree_of K) v got).view) (tree_learn (tree_of K) v got))

-- The lock: a rank joins its node's queue when it asks, and leaves it by the leave of a queue that has something above it. No cohort,
-- no readers that share, and no local compare-and-swap.
abbrev pub mcs_table : Rooted → LockTable TreeView
mcs_table K =
    record {
      size = of_tree K;
      spot = tree_spot K;
      first = λ r. out_at r (leaf_of_rank K r);
      ask = λ v m. at_level v 0 Clear;
      plan = tree_plan (tree_of K);
      learn = mcs_learn K;
      leave = λ v. at_level v 0 (leave_at v.phase true);
      standing = tree_standing;
      queues = queues_from K 0 (how_many K);
      cohort = λ c. false;
      shares = false;
      may_make = no_local;
    }

-- a state is good where its tree is, and no rank is left at the hook
pub record McsGood (K : Rooted) (levels : ℕ) (s : LockState TreeView) : Type 0 where
  pub all_words : length s.words ≡ of_tree K
  pub all_views : length s.views ≡ ranks_in K
  pub all_modes : length s.modes ≡ ranks_in K
  pub unhooked : (r : ℕ) (v : TreeView) → slice_get s.views r ≡ Some v → at_hook v ≡ false
  pub inside : Bool
  pub tree : GoodAt K levels inside s.words s.views s.trace
