-- The good states of a tree: each queue is good, with a phase for each of its members; a rank's view tells the phases of those for
-- whom it works; and how the head of an element's queue stands tells how the element stands in its parent's queue.
use Rattle.std.specs.Prelude.{◌≡◌, ℕ, zero, suc, ◌+◌, ◌<◌, ◌≤◌, Bool, true, false, List, length, if◌then◌else◌, slice_get, Option, Some, None, is_some}
use Rattle.rl_step.specs.declared.events.Event.{Event}
use Rattle.rl_step.specs.declared.events.Standing.{Standing}
use Rattle.rl_step.specs.declared.events.Standing.TheVariants as standing
use Rattle.rl_step.specs.Queues.{tenures}
use Rattle.rl_queue.specs.declared.view.Phase.{Phase}
use Rattle.rl_queue.specs.declared.view.Phase.TheVariants.{Idle, Clear, Reset, Swing, Link, Wait, Settle, Granted, Look, Close, Await, Hand, Above}
use Rattle.rl_queue.specs.Lane.{lane_of, is_pass}
use Rattle.rl_queue.specs.QueueGood.{QueueGood}
use Rattle.rl_queue.specs.Heads.{Head, head_in}
use Rattle.rl_queue.specs.Standings.{standing_of}
use Rattle.rl_tree.specs.declared.view.TreeView.{TreeView}
use Rattle.rl_tree.specs.Tree.{hook_by, path, works_for, behind_at}
use Rattle.rl_tree.specs.declared.rooted.Rooted.{Rooted}
use Rattle.rl_tree.specs.Elements.{how_many, leaf_of_rank, is_node, is_in, names_in, tree_of, queue_at}

-- How the way to a queue's head stands: nobody has it, a head has to settle, somebody has it, or it is being given up.
pub data Gate : Type 0 where
  Shut : Gate
  Asking : Gate
  Open : Gate
  Releasing : Gate

abbrev pub open_if : Bool → Gate
open_if true = Open
open_if false = Shut

abbrev pub some_left : ℕ → Bool
some_left zero = false
some_left (suc k) = true

abbrev pub gate_at : Phase → ℕ → Gate
gate_at Settle s = Asking
gate_at Wait s = open_if (is_pass s)
gate_at (Granted left) s = Open
gate_at (Look left u) s = Open
gate_at (Hand succ left) s = open_if (some_left left)
gate_at (Above succ) s = Releasing
gate_at p s = Shut

abbrev pub gate_of : Option Head → Gate
gate_of None = Shut
gate_of (Some h) = gate_at h.phase h.status

-- how an element may stand in its parent's queue, by the gate of its own
abbrev pub Matches : Gate → Phase → Type 0
Matches Shut p = p ≡ Idle
Matches Asking Clear = Unit {0}
Matches Asking Reset = Unit {0}
Matches Asking (Swing g) = Unit {0}
Matches Asking (Link g) = Unit {0}
Matches Asking Wait = Unit {0}
Matches Asking Settle = Unit {0}
Matches Asking p = ⊥
Matches Open (Granted left) = Unit {0}
Matches Open p = ⊥
Matches Releasing (Granted left) = Unit {0}
Matches Releasing (Look left u) = Unit {0}
Matches Releasing (Close left) = Unit {0}
Matches Releasing (Await left) = Unit {0}
Matches Releasing (Hand succ left) = Unit {0}
Matches Releasing (Above succ) = Unit {0}
Matches Releasing p = ⊥

-- a queue with something above it gives that up before it is left: it has no pass left then
abbrev pub Spent : Bool → Phase → Type 0
Spent true (Look left u) = u ≡ true
Spent true (Close left) = left ≡ 0
Spent true (Await left) = left ≡ 0
Spent false (Look left u) = u ≡ false
Spent false (Above succ) = ⊥
Spent b p = Unit {0}

-- which way a rank goes by its phase at its level
pub data Way : Type 0 where
  Up : Way
  Down : Way
  Rest : Way

abbrev pub way_by : Standing → Way
way_by standing.Asking = Up
way_by standing.Leaving = Down
way_by _ = Rest

abbrev pub way_at : Phase → Way
way_at p = way_by (standing_of p)

abbrev pub way_of : Bool → Phase → Way
way_of true p = Down
way_of false p = way_at p

-- the phase of a level below by the way: it must settle there, or has given up what is above
abbrev pub below_by : Way → Option ℕ → Phase
below_by Up s = Settle
below_by Down s = Above s
below_by Rest s = Idle

-- What a view tells of the phase of the member for which it works at a level: below its own, by its way; at its own, its phase, or
-- while it loads the status only that the element has the queue.
abbrev pub IsGrantedAt : Phase → Type 0
IsGrantedAt (Granted left) = Unit {0}
IsGrantedAt p = ⊥

abbrev pub Tells : TreeView → Bool → Phase → Type 0
Tells v true p = IsGrantedAt p
Tells v false p = p ≡ v.phase

-- A view is shaped: it is at a level of the tree, at rest at level 0, and a query is above that; at a hook it is at the root.
pub record Shaped (levels : ℕ) (v : TreeView) : Type 0 where
  pub within : v.level ≤ levels
  pub resting : way_of v.query v.phase ≡ Rest → v.level ≡ 0
  pub above : v.query ≡ true → 0 < v.level
  pub three : length v.behind ≡ 3
  -- it stands where it must settle, or where something is above, at the hook alone
  pub hooked : hook_by v.query v.phase ≡ true → v.level ≡ levels

pub record InQueue (K : Rooted) (q m : ℕ) : Type 0 where
  pub is : is_in K q m ≡ true

-- the tenures of an element's queue that have ended are those that its members' queues were settled for, but for the one that an
-- element has that is inside
abbrev pub one_if : Phase → ℕ
one_if (Granted left) = 1
one_if p = 0

abbrev pub granted_in : Option Head → ℕ
granted_in None = 0
granted_in (Some h) = one_if h.phase

-- A tree is good by these phases of members, these lines and these counts of ended tenures: each rank has its view, and each queue is
-- good; a view tells the phases of those for whom it works; and the gate of an element's queue tells how it stands in its parent's.
pub record IsGoodBy (K : Rooted) (levels : ℕ) (phase : ℕ → ℕ → Phase) (line : ℕ → List ℕ) (ended : ℕ → ℕ) (words : List ℕ)
    (views : List TreeView) (trace : List Event) : Type 0 where
  pub own : (r : ℕ) (v : TreeView) → slice_get views r ≡ Some v → (v.rank ≡ r) × (v.leaf ≡ leaf_of_rank K r)
  pub shaped : (r : ℕ) (v : TreeView) → slice_get views r ≡ Some v → Shaped levels v
  pub queue : (q : ℕ) → q < how_many K → QueueGood (names_in K q) (InQueue K q) words (phase q) (line q) trace (ended q)
  pub below : (r : ℕ) (v : TreeView) (j : ℕ) → slice_get views r ≡ Some v → j < v.level →
      phase (path (tree_of K) v.leaf j) (works_for (tree_of K) v j) ≡ below_by (way_of v.query v.phase) (behind_at v.behind j)
  pub here : (r : ℕ) (v : TreeView) → slice_get views r ≡ Some v → Tells v v.query (phase (path (tree_of K) v.leaf v.level) (works_for (tree_of K) v v.level))
  pub gates : (e p : ℕ) → e < how_many K → (tree_of K).parent e ≡ Some p →
      Matches (gate_of (head_in (lane_of (names_in K e) words (phase e)) (line e))) (phase p e)
  pub spent : (q m : ℕ) → Spent (is_some (names_in K q).budget) (phase q m)
  pub tenured : (q : ℕ) → q < how_many K →
      ended q + (if is_node K q then 0 else granted_in (head_in (lane_of (names_in K q) words (phase q)) (line q))) ≡ tenures (queue_at K q)
      trace

pub record TreeGood (K : Rooted) (levels : ℕ) (words : List ℕ) (views : List TreeView) (trace : List Event) : Type 0 where
  pub phase : ℕ → ℕ → Phase
  pub line : ℕ → List ℕ
  pub ended : ℕ → ℕ
  pub by : IsGoodBy K levels phase line ended words views trace

-- whether the root's gate is open: then some rank has come in and hasn't begun to go out
abbrev pub is_open : Gate → Bool
is_open Shut = false
is_open Asking = false
is_open Open = true
is_open Releasing = false

abbrev pub root_open : Rooted → List ℕ → (ℕ → ℕ → Phase) → (ℕ → List ℕ) → Bool
root_open K words phase line = is_open (gate_of (head_in (lane_of (names_in K 0) words (phase 0)) (line 0)))

-- the tree is good, and `inside` says whether the root's gate is open
pub record GoodAt (K : Rooted) (levels : ℕ) (inside : Bool) (words : List ℕ) (views : List TreeView) (trace : List Event) : Type 0 where
  pub tree : TreeGood K levels words views trace
  pub gate : root_open K words tree.phase tree.line ≡ inside

-- it gives up what is above
abbrev pub IsAbove : Phase → Type 0
IsAbove (Above succ) = Unit {0}
IsAbove p = ⊥
