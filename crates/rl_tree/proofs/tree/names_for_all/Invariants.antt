-- So far there are the words of the queues before this one.
use Rattle.std.proofs.Common.{◌≡◌}
use Rattle.rl_tree.specs.Elements.{names_by, upto}
use Rattle.rl_tree.proofs.tree.names_for_all.Given as goal

abbrev pub invariant-loop-element : goal.invariant-loop-element
invariant-loop-element l = l.queues.items ≡ upto (names_by l.shape l.root) l.element
