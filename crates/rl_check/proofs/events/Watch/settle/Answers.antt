use Rattle.std.proofs.Common.{◌∙◌, ℕ, List, sym, subst, ◌++◌, ◌∷◌, []}
use Rattle.rl_step.specs.declared.events.Event.TheVariants.{Settle}
use Rattle.rl_check.specs.Watching.{IsSeen}
use Rattle.rl_check.proofs.WatchLaws.{settles_on, settles_free}
use Rattle.rl_check.proofs.events.Watch.settle.Goals as goal

pub returns-in-Some : goal.returns-in-Some
returns-in-Some c queues ranks trace there s =
    subst (λ (z : List ℕ). IsSeen queues ranks (trace ++ Settle c.args.queue c.args.member ∷ []) c.args.self.now.writer c.args.self.now.reads.items c.args.self.now.budgets.items z) (sym c.allow.ensures)
    (settles_on queues ranks trace _ _ _ _ s c.args.queue c.args.member c.in-Some.budget (sym c.budget.ensures ∙ c.in-Some.is))

pub returns-in_default : goal.returns-in_default
returns-in_default c queues ranks trace there s = settles_free queues ranks trace _ _ _ _ s c.args.queue c.args.member (sym c.budget.ensures ∙ c.in_default.is)
