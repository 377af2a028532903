use Rattle.std.proofs.Common.{sym, subst, take}
use Rattle.std.proofs.lemmas.Option.{slice_get-get_or}
use Rattle.rl_step.specs.Traces.{events_of}
use Rattle.rl_check.specs.QueuesOf.{queues_all}
use Rattle.rl_check.specs.Watching.{Sees}
use Rattle.rl_check.proofs.WatchLaws.{keeps, all_hold, trace_more, first_broken}
use Rattle.rl_check.proofs.events.first_break.Goals as goal

pub loop-place-preserved : goal.loop-place-preserved
loop-place-preserved c =
    let es = c.args.events.now in
    let p = c.loop-place.place in
    subst (λ t. Sees (queues_all c.args.queues.now) c.args.ranks t c.see.new.self) (sym (trace_more es p _ c.loop-place-test.true))
    (c.if-not-see.ensures (queues_all c.args.queues.now) c.args.ranks (events_of (take p es)) (c.requires.there p _ (slice_get-get_or es p _ c.loop-place-test.true)) c.loop-place.invariant)

pub returns-then-not-see : goal.returns-then-not-see
returns-then-not-see c =
    let es = c.args.events.now in
    let p = c.loop-place.place in
    first_broken (queues_all c.args.queues.now) es p c.in-Ok.number _ c.loop-place-test.true c.in-Ok.ensures.1 (keeps _ _ _ _ _ _ _ c.loop-place.invariant)
    (c.if-not-see.ensures (queues_all c.args.queues.now) c.args.ranks (events_of (take p es)) (c.requires.there p _ (slice_get-get_or es p _ c.loop-place-test.true)) c.loop-place.invariant)

pub returns : goal.returns
returns c = all_hold (queues_all c.args.queues.now) c.args.events.now c.loop-place.place c.loop-place-test.false (keeps _ _ _ _ _ _ _ c.loop-place.invariant)
