-- So far there are the paths of the elements before this one.
use Rattle.std.proofs.Common.{◌≡◌}
use Rattle.rl_tree.specs.Elements.{path_row, upto}
use Rattle.rl_tree.proofs.tree.paths_of.Given as goal

abbrev pub invariant-loop-element : goal.invariant-loop-element
invariant-loop-element l = l.paths.items ≡ upto (path_row l.rooted) l.element
