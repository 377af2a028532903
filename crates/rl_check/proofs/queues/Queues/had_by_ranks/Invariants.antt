use Rattle.std.proofs.Common.{◌≡◌, take}
use Rattle.std.specs.List.{count_by}
use Rattle.rl_journal.specs.Tenures.{is_had_by}
use Rattle.rl_check.specs.QueuesOf.{queue_of}
use Rattle.rl_check.proofs.queues.Queues.had_by_ranks.Given as goal

abbrev pub invariant-loop-entry : goal.invariant-loop-entry
invariant-loop-entry l = l.had ≡ count_by (is_had_by (queue_of l.self l.queue) l.self.facts.spares) (take l.entry-index l.entries)
