-- The members that a view names are there, by what is true of the queue.
use Rattle.std.proofs.Common.{sym, subst, length}
use Rattle.rl_queue.specs.Queue.{PlanFits}
use Rattle.rl_queue.specs.laws.DmcsLaws.{fits_at}
use Rattle.rl_queue.proofs.dmcs.DmcsAlgo.plan.Goals as goal

pub queue_plan-requires : goal.queue_plan-requires
queue_plan-requires c =
    subst (λ z. PlanFits z c.args.view.member c.args.view.phase) (sym c.args.self.now.named)
    (fits_at (length c.args.self.now.node_of.items) c.requires.state c.requires.rank c.args.view.member c.args.view.phase c.requires.is_good c.requires.has)
