-- The rank's leaf is on its path.
use Rattle.std.proofs.Common.{arith}
use Rattle.rl_tree.proofs.tree.Tree.plan.Goals as goal

pub member_at-member-requires-clause-there : goal.member_at-member-requires-clause-there
member_at-member-requires-clause-there c = c.requires.placed.there 0 (omega arith)

pub element_at-requires-clause-there : goal.element_at-requires-clause-there
element_at-requires-clause-there c = c.requires.placed.there 0 (omega arith)
