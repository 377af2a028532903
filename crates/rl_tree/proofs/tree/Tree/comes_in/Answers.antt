-- The rank's leaf is on its path.
use Rattle.std.proofs.Common.{rules}
use Rattle.rl_tree.proofs.tree.Tree.comes_in.Goals as goal

pub inside-phase-requires : goal.inside-phase-requires
inside-phase-requires c = c.requires.there 0 (search rules)
