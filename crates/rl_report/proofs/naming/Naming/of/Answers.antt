use Rattle.std.proofs.Common.{◌≡◌, ◌<◌, ◌^◌, ◌∙◌, List, length, ap, sym, subst}
use Rattle.rl_word.specs.declared.locks.LockFacts.{LockFacts}
use Rattle.rl_word.specs.LockFacts.{facts_of}
use Rattle.rl_place.specs.LockWords.{name_of}
use Rattle.rl_place.specs.Places.{ThePlace}
use Rattle.rl_place.specs.Shapes.{shape_of, knobs_of}
use Rattle.rl_report.specs.Naming.{TheQueueName, queue_names}
use Rattle.rl_report.proofs.NamingLaws.{few_of_kind}
use Rattle.rl_report.proofs.QueueLaws.{queues_long, under_queues}
use Rattle.rl_report.proofs.naming.Naming.of.Goals as goal

pub invariant_of-result : goal.invariant_of-result
invariant_of-result c = subst (λ (queues : List TheQueueName). length queues < 2 ^ 32) (sym c.in_ok-queues.ensures) (few_of_kind _ c.requires _)

pub returns-clause-queues : goal.returns-clause-queues
returns-clause-queues c =
    let place : ThePlace = c.args.place.now in
    let facts : c.facts-facts.result ≡ facts_of (name_of place.lock) = c.facts-facts.ensures ∙ ap facts_of (c.name-name.ensures ∙ ap (λ (p : ThePlace). name_of p.lock) c.place.view_is) in
    let named = ap length c.in_ok-queues.ensures ∙ ap (λ (f : LockFacts). length (queue_names f.queues place.levels place.paths)) facts in
    λ home. named ∙ sym (queues_long place home)

pub returns-clause-under : goal.returns-clause-under
returns-clause-under c =
    let place : ThePlace = c.args.place.now in
    let facts : c.facts-facts.result ≡ facts_of (name_of place.lock) = c.facts-facts.ensures ∙ ap facts_of (c.name-name.ensures ∙ ap (λ (p : ThePlace). name_of p.lock) c.place.view_is) in
    let named = ap length c.in_ok-queues.ensures ∙ ap (λ (f : LockFacts). length (queue_names f.queues place.levels place.paths)) facts in
    λ home. named ∙ sym (queues_long place home) ∙ ap length (sym (under_queues (name_of place.lock) (shape_of place) home (knobs_of place.lock)))
