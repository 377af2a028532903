-- How urgently a rank of RMA-RW goes on: who goes out of a counter before writers, and writers before readers that ask.
use Rattle.std.specs.Prelude.{ℕ, Bool, true, false, List, Option, Some, None}
use Rattle.rl_queue.specs.declared.view.Phase.{Phase}
use Rattle.rl_queue.specs.declared.view.Phase.TheVariants.{Granted}
use Rattle.rl_queue.specs.Urgency.{loaded, urgent_at}
use Rattle.rl_tree.specs.declared.view.TreeView.{TreeView}
use Rattle.rl_tree.specs.Tree.{tree_plan}
use Rattle.rl_tree.specs.Elements.{tree_of}
use Rattle.rl_counter.specs.declared.view.Doing.{Doing}
use Rattle.rl_counter.specs.declared.view.Doing.TheVariants.{Nothing, Refused, Reset, Inside, Depart, Put, Count, Compare, TakeOut, TakeOff}
use Rattle.rl_rw.specs.declared.view.RwView.{RwView}
use Rattle.rl_rw.specs.Rw.{Shared}

-- in the tree: who holds the lock as who goes out, and all others as writers; none where it waits in its queue, or is out
abbrev pub turn_of : Phase → ℕ
turn_of (Granted left) = 0
turn_of p = 1

abbrev pub where_some : ℕ → Option ℕ → Option ℕ
where_some n None = None
where_some n (Some k) = Some n

-- a rank that loads a status is a writer; else it goes by its phase, and by the word that it is about to load
abbrev pub tree_urgency : Bool → Phase → ℕ → Option ℕ
tree_urgency true p word = Some 1
tree_urgency false p word = where_some (turn_of p) (urgent_at p word)

abbrev pub urgency_at : Shared → List ℕ → Doing → TreeView → Option ℕ
urgency_at K words Nothing t = tree_urgency t.query t.phase (loaded words (tree_plan (tree_of K.rooted) t))
urgency_at K words Inside t = Some 0
urgency_at K words Depart t = Some 0
urgency_at K words (Refused a) t = Some 0
urgency_at K words (Reset x) t = Some 0
urgency_at K words (Put i) t = Some 1
urgency_at K words (Count i) t = Some 1
urgency_at K words (Compare i a) t = Some 1
urgency_at K words (TakeOut i) t = Some 1
urgency_at K words (TakeOff i x) t = Some 1
urgency_at K words p t = Some 2

abbrev pub rw_urgent : Shared → List ℕ → RwView → Option ℕ
rw_urgent K words v = urgency_at K words v.counter.doing v.tree
