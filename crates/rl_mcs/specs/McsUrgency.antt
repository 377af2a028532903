-- Who goes on at RMA-MCS: who loads a status, and else who needn't wait in the queue where it works.
use Rattle.std.specs.Prelude.{ℕ, Bool, true, false, List, Option, Some}
use Rattle.rl_queue.specs.declared.view.Phase.{Phase}
use Rattle.rl_queue.specs.Urgency.{loaded, urgent_at}
use Rattle.rl_tree.specs.declared.view.TreeView.{TreeView}
use Rattle.rl_tree.specs.declared.rooted.Rooted.{Rooted}
use Rattle.rl_tree.specs.Tree.{tree_plan}
use Rattle.rl_tree.specs.Elements.{tree_of}

abbrev pub urgent_by : Bool → Phase → ℕ → Option ℕ
urgent_by true p word = Some 0
urgent_by false p word = urgent_at p word

abbrev pub mcs_urgent : Rooted → List ℕ → TreeView → Option ℕ
mcs_urgent K words v = urgent_by v.query v.phase (loaded words (tree_plan (tree_of K) v))
