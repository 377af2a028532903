-- What the code asks of a view at the counters.
use Rattle.std.specs.Prelude.{◌≡◌, ◌≤◌, length, true}
use Rattle.rl_tree.specs.declared.rooted.Rooted.{Rooted}
use Rattle.rl_tree.specs.declared.view.TreeView.{TreeView}
use Rattle.rl_tree.specs.Tree.{at_hook, tree_resume, with_entry}
use Rattle.rl_tree.specs.Elements.{tree_of}
use Rattle.rl_tree.specs.Fits.{IsPlaced}
use Rattle.rl_counter.specs.declared.view.Doing.{Doing}
use Rattle.rl_counter.specs.declared.view.Doing.TheVariants.{Nothing, Depart}

-- the tree can go on from the hook
pub record MayLeaveHook (rooted : Rooted) (t : TreeView) : Type 0 where
  pub hooked : at_hook t ≡ true
  pub placed : IsPlaced rooted t
  pub room : length (with_entry (tree_resume (tree_of rooted) t)).events ≤ 8

-- it does so where a task at the marks has ended: all but a reader's that departs
abbrev pub Ends : Rooted → TreeView → Doing → Doing → Type 0
Ends rooted t Depart Nothing = Unit {0}
Ends rooted t p Nothing = MayLeaveHook rooted t
Ends rooted t p q = Unit {0}
