-- The tallies so far are those of the first queues.
use Rattle.std.proofs.Common.{◌≤◌, vec_capacity}
use Rattle.rl_shard.specs.Closing.{AreTotals}
use Rattle.rl_shard.proofs.closing.totals.Given as goal

abbrev pub invariant-loop-queue : goal.invariant-loop-queue
invariant-loop-queue g l = AreTotals l.seats l.queue l.totals.items × (l.queues ≤ vec_capacity l.totals)
