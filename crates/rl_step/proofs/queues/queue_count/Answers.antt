-- A name decides the kind of the queues.
use Rattle.std.proofs.Common.{length, ap, ◌∙◌}
use Rattle.rl_word.specs.declared.locks.LockFacts.{LockFacts}
use Rattle.rl_step.specs.LockQueues.{queues_of_kind}
use Rattle.rl_step.proofs.queues.queue_count.Goals as goal

pub returns : goal.returns
returns c = λ home knobs.
    c.count_of_kind.ensures home knobs ∙ ap (λ (facts : LockFacts). length (queues_of_kind facts.queues c.args.shape.now home knobs)) c.facts.ensures
