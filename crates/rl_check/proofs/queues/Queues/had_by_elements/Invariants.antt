use Rattle.std.proofs.Common.{◌≡◌, ◌+◌}
use Rattle.rl_model.specs.Table.{sum_below}
use Rattle.rl_journal.specs.Tenures.{settled_if}
use Rattle.rl_check.specs.QueuesOf.{queue_of}
use Rattle.rl_check.proofs.queues.Queues.had_by_elements.Given as goal

abbrev pub invariant-loop-element : goal.invariant-loop-element
invariant-loop-element l = l.fn.times ≡ l.left + sum_below (settled_if (queue_of l.self l.queue).members l.tallies) l.element
