-- The members that a view names are there, by what is true of its queue.
use Rattle.std.proofs.Common.{◌∙◌, ap, sym, subst}
use Rattle.rl_queue.specs.Queue.{PlanFits}
use Rattle.rl_alock.specs.Alock.{cohorts_of, names_of}
use Rattle.rl_alock.proofs.CodeLaws.{fits_at}
use Rattle.rl_alock.proofs.alock.AlockAlgo.plan.Goals as goal

pub queue_plan-requires : goal.queue_plan-requires
queue_plan-requires c =
    let K = cohorts_of c.args.self.now.home c.args.self.now.node_of.items c.args.self.now.local c.args.self.now.remote in
    subst (λ z. PlanFits z c.args.view.queue.member c.args.view.queue.phase) (sym (c.names_of.ensures ∙ ap (names_of K) c.cohort_of-cohort.ensures))
    (fits_at K c.requires.state c.requires.rank c.args.view c.requires.is_good.good c.requires.has)
