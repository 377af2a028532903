-- What has been told and what is left to settle is all; and there is room.
use Rattle.std.proofs.Common.{◌≡◌, ◌+◌, ◌-◌, ◌++◌, length}
use Rattle.rl_tree.specs.Tree.{settles_below}
use Rattle.rl_tree.specs.Elements.{tree_of}
use Rattle.rl_tree.proofs.tree.Tree.settle_below.Given as goal

abbrev pub invariant-loop-step : goal.invariant-loop-step
invariant-loop-step l = (l.events.items ++ settles_below (tree_of l.self.rooted) l.view (l.level - l.step) ≡ l.initial.events.items ++ settles_below (tree_of l.self.rooted) l.view l.level) × (length l.events.items ≡ length l.initial.events.items + l.step)
