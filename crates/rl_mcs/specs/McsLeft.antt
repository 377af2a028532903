-- What is left to do at RMA-MCS, whose root is at level n.
use Rattle.std.specs.Prelude.{ℕ, ◌+◌, ◌*◌, ◌-◌, ◌==◌, Bool, true, false, List, if◌then◌else◌, slice_index}
use Rattle.rl_queue.specs.declared.view.Phase.{Phase}
use Rattle.rl_queue.specs.declared.view.Phase.TheVariants.{Idle, Clear, Reset, Swing, Link, Wait, Settle, Granted, Look, Close, Await, Hand, Above}
use Rattle.rl_tree.specs.declared.view.TreeView.{TreeView}
use Rattle.rl_tree.specs.declared.rooted.Rooted.{Rooted}
use Rattle.rl_tree.specs.Tree.{path}
use Rattle.rl_tree.specs.Elements.{tree_of}
use Rattle.rl_ending.specs.TwoSums.{two_sums}

-- How far a rank is: one that asks has the levels above before it; one that leaves goes up, which counts more than all that comes down,
-- and then down.
abbrev pub far_by : ℕ → Bool → ℕ → Phase → ℕ
far_by n true w p = 4 * n + 2 * (n - w) + 6
far_by n false w Idle = 0
far_by n false w Clear = 7 * (n - w) + 6
far_by n false w Reset = 7 * (n - w) + 5
far_by n false w (Swing g) = 7 * (n - w) + 4
far_by n false w (Link g) = 7 * (n - w) + 3
far_by n false w Wait = 7 * (n - w) + 2
far_by n false w Settle = 7 * (n - w) + 1
far_by n false w (Granted left) = 0
far_by n false w (Look left u) = 4 * n + 2 * (n - w) + 5
far_by n false w (Close left) = 4 * w + 3
far_by n false w (Await left) = 4 * w + 2
far_by n false w (Hand s left) = 4 * w + 1
far_by n false w (Above s) = 4 * w + 4

abbrev pub far_of : ℕ → TreeView → ℕ
far_of n v = far_by n v.query v.level v.phase

-- one more where a guess isn't the tail
abbrev pub near_by : Bool → ℕ → Phase → ℕ
near_by true tail p = 0
near_by false tail (Swing g) = if tail == g then 0 else 1
near_by false tail p = 0

abbrev pub near_of : Rooted → List ℕ → TreeView → ℕ
near_of K words v = near_by v.query (slice_index words (path (tree_of K) v.leaf v.level)) v.phase

abbrev pub mcs_left : Rooted → ℕ → List ℕ → List TreeView → ℕ
mcs_left K n words views = two_sums 1 (far_of n) (near_of K words) views
