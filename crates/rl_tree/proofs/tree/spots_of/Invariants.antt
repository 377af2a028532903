-- So far there are the spots of the words before this one.
use Rattle.std.proofs.Common.{◌≡◌}
use Rattle.rl_tree.specs.Elements.{tree_spot, upto}
use Rattle.rl_tree.proofs.tree.spots_of.Given as goal

abbrev pub invariant-loop-word : goal.invariant-loop-word
invariant-loop-word l = l.spots.items ≡ upto (tree_spot l.rooted) l.word
