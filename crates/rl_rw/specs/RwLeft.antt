-- What is left to do at RMA-RW, whose root is at level n: how far each rank is, how many counters are full, and small change.
use Rattle.std.specs.Prelude.{ℕ, zero, suc, ◌+◌, ◌*◌, ◌-◌, ◌^◌, ◌==◌, Bool, true, false, List, length, nat_lt, sum_by, if◌then◌else◌, slice_index}
use Rattle.rl_queue.specs.declared.view.Phase.{Phase}
use Rattle.rl_queue.specs.declared.view.Phase.TheVariants.{Idle, Clear, Reset, Swing, Link, Wait, Settle, Granted, Look, Close, Await, Hand, Above}
use Rattle.rl_tree.specs.declared.view.TreeView.{TreeView}
use Rattle.rl_tree.specs.Tree.{path}
use Rattle.rl_tree.specs.Elements.{tree_of, ranks_in}
use Rattle.rl_counter.specs.declared.view.Doing.{Doing}
use Rattle.rl_counter.specs.declared.view.Doing.TheVariants.{Nothing, Arrive, Refused, SeeTail, Swap, Reset as ResetOff, Round, RoundTail, Inside, Depart, Put, Count, Compare, TakeOut, TakeOff}
use Rattle.rl_counter.specs.Counter.{depart_word}
use Rattle.rl_rw.specs.declared.view.RwView.{RwView}
use Rattle.rl_rw.specs.Rw.{Shared, groups, counters_of}

-- so many of a number, of which a rank's `near` is at most `change`: what a rank is less far, and what is full less, pays for the change of all
abbrev pub three_sums : {X : Type 0} → ℕ → (X → ℕ) → (X → ℕ) → ℕ → List X → ℕ
three_sums change far near full views = (1 + change * length views) * (sum_by far views + full) + sum_by near views

-- How far a rank is in the tree, where so much is to do at the hook, each way: one that asks has the levels above before it; one that
-- leaves goes up, and then down.
abbrev pub far_by : ℕ → ℕ → Bool → ℕ → Phase → ℕ
far_by n hook true w p = hook + (4 * n + 2 * (n - w) + 6)
far_by n hook false w Idle = 0
far_by n hook false w Clear = hook + (7 * (n - w) + 6)
far_by n hook false w Reset = hook + (7 * (n - w) + 5)
far_by n hook false w (Swing g) = hook + (7 * (n - w) + 4)
far_by n hook false w (Link g) = hook + (7 * (n - w) + 3)
far_by n hook false w Wait = hook + (7 * (n - w) + 2)
far_by n hook false w Settle = hook + (7 * (n - w) + 1)
far_by n hook false w (Granted left) = 0
far_by n hook false w (Look left u) = hook + (4 * n + 2 * (n - w) + 5)
far_by n hook false w (Close left) = 4 * w + 3
far_by n hook false w (Await left) = 4 * w + 2
far_by n hook false w (Hand s left) = 4 * w + 1
far_by n hook false w (Above s) = hook + (4 * n + 2 * (n - w) + 4)

abbrev pub far_in : ℕ → ℕ → TreeView → ℕ
far_in n m v = far_by n (2 * m) v.query v.level v.phase

-- At the marks of m counters: two acts at each, on the way in at first one at each and then one or more. A reader that goes out may fill its
-- counter.
abbrev pub far_at : ℕ → ℕ → Doing → TreeView → ℕ
far_at n m Nothing t = far_in n m t
far_at n m (Put i) t = 2 * m - i
far_at n m (Count i) t = m - i
far_at n m (Compare i a) t = m - i
far_at n m (TakeOut i) t = 4 * n + 3 + 2 * (m - i)
far_at n m (TakeOff i x) t = 4 * n + 2 + 2 * (m - i)
far_at n m Inside t = 0
far_at n m Depart t = 2
far_at n m p t = 1

abbrev pub rw_far : Shared → ℕ → RwView → ℕ
rw_far K n v = far_at n (groups K) v.counter.doing v.tree

-- a counter is full: as many departed as may come to it
abbrev pub is_full : Shared → List ℕ → ℕ → Bool
is_full K words g = slice_index words (depart_word (counters_of K) g) == K.readers

abbrev pub ones : Bool → ℕ
ones true = 1
ones false = 0

-- how many of the first k are
abbrev pub fulls : Shared → List ℕ → ℕ → ℕ
fulls K words zero = 0
fulls K words (suc k) = fulls K words k + ones (is_full K words k)

-- The change of a reader, by whether its counter is full: then it has to come to the reset, and one that found a mark has to look again first;
-- else it has to come to arrive.
abbrev pub near_if : Bool → Doing → ℕ
near_if false (Refused a) = 6
near_if false (SeeTail a) = 5
near_if false Swap = 4
near_if false (ResetOff x) = 3
near_if false (RoundTail a) = 3
near_if false Round = 2
near_if false Arrive = 1
near_if true (Refused a) = if nat_lt a (2 ^ 32) then 3 else 8
near_if true (SeeTail a) = if nat_lt a (2 ^ 32) then 2 else 7
near_if true Swap = 1
near_if true (ResetOff x) = 5
near_if true (RoundTail a) = if nat_lt a (2 ^ 32) then 5 else 7
near_if true Round = 6
near_if true Arrive = 4
near_if b p = 0

-- in the tree one more where a guess isn't the tail
abbrev pub near_by : Bool → ℕ → Phase → ℕ
near_by true tail p = 0
near_by false tail (Swing g) = if tail == g then 0 else 1
near_by false tail p = 0

-- at the marks more where what was counted isn't what has gone
abbrev pub near_at : Shared → List ℕ → ℕ → Doing → TreeView → ℕ
near_at K words c Nothing t = near_by t.query (slice_index words (path (tree_of K.rooted) t.leaf t.level)) t.phase
near_at K words c (Count i) t = 2
near_at K words c (Compare i a) t = if slice_index words (depart_word (counters_of K) i) == a - 2 ^ 32 then 1 else 3
near_at K words c p t = near_if (is_full K words c) p

abbrev pub rw_near : Shared → List ℕ → RwView → ℕ
rw_near K words v = near_at K words v.counter.counter v.counter.doing v.tree

abbrev pub rw_left : Shared → ℕ → List ℕ → List RwView → ℕ
rw_left K n words views = three_sums 8 (rw_far K n) (rw_near K words) (fulls K words (groups K)) views

-- what a rank that asks, or leaves, adds to it at most
abbrev pub rw_most : Shared → ℕ → ℕ
rw_most K n = (2 * groups K + (7 * n + 6)) * (1 + 8 * ranks_in K.rooted) + 8
