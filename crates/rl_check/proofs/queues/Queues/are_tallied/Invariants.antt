use Rattle.std.proofs.Common.{ℕ, ◌<◌}
use Rattle.rl_check.specs.Tallying.{IsTallied}
use Rattle.rl_check.specs.QueuesOf.{queue_of}
use Rattle.rl_check.proofs.queues.Queues.are_tallied.Given as goal

abbrev pub invariant-loop-queue : goal.invariant-loop-queue
invariant-loop-queue l = (q : ℕ) → q < l.queue → IsTallied l.self.facts.spares l.entries l.tallies q (queue_of l.self q)
