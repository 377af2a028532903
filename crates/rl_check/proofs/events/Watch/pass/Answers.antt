use Rattle.std.proofs.Common.{◌≢◌, ◌∙◌, ℕ, List, ap, sym, subst, get_or, slice_set, ◌++◌, ◌∷◌, [], ◌-◌}
use Rattle.rl_step.specs.declared.events.Event.TheVariants.{Pass}
use Rattle.rl_check.specs.Watching.{IsSeen}
use Rattle.rl_check.proofs.WatchLaws.{none_is, some_is, passes_free, passes_on, passes_over}
use Rattle.rl_check.proofs.events.Watch.pass.Goals as goal

pub returns-then-is_none : goal.returns-then-is_none
returns-then-is_none c queues ranks trace there s = passes_free queues ranks trace _ _ _ _ s c.args.queue c.args.member (sym c.budget.ensures ∙ none_is c.budget.result c.if-is_none.ensures)

pub returns-then-room-eq0 : goal.returns-then-room-eq0
returns-then-room-eq0 c queues ranks trace there s keep =
    let b = some_is c.budget.result c.if-is_none.ensures in
    passes_over queues ranks trace _ _ _ _ s c.args.queue c.args.member b.0 (sym c.budget.ensures ∙ b.1) (sym c.room_of-room.ensures ∙ c.if-room-eq0.true) keep

pub returns : goal.returns
returns c queues ranks trace there s =
    let b = some_is c.budget.result c.if-is_none.ensures in
    let P = λ (z : List ℕ). IsSeen queues ranks (trace ++ Pass c.args.queue c.args.member ∷ []) c.args.self.now.writer c.args.self.now.reads.items c.args.self.now.budgets.items z in
    let more : get_or c.args.self.now.room.items c.args.queue 0 ≢ 0 = λ h. c.if-room-eq0.false (c.room_of-room.ensures ∙ h) in
    subst P (sym (c.allow.ensures ∙ ap (λ n. slice_set c.args.self.now.room.items c.args.queue (n - 1)) c.room_of-room.ensures))
    (passes_on queues ranks trace _ _ _ _ s c.args.queue c.args.member b.0 (sym c.budget.ensures ∙ b.1) more)
