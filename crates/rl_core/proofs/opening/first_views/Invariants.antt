-- The views so far are those of the ranks so far.
use Rattle.std.proofs.Common.{◌≡◌, take}
use Rattle.rl_core.specs.ShardTables.{first_views}
use Rattle.rl_core.proofs.opening.first_views.Given as goal

abbrev pub invariant-loop-rank : goal.invariant-loop-rank
invariant-loop-rank g l = l.views.items ≡ first_views (g.C.ShardCore.says l.core).table 0 (take l.rank l.rooms)
