-- The views so far are those of the ranks so far.
use Rattle.std.proofs.Common.{◌≡◌, take}
use Rattle.rl_shard.specs.Counting.{first_counted}
use Rattle.rl_shard.proofs.opening.first_views.Given as goal

abbrev pub invariant-loop-rank : goal.invariant-loop-rank
invariant-loop-rank g l = l.views.items ≡ first_counted (g.C.ShardCore.says l.core).table l.queues (take l.rank l.rooms)
