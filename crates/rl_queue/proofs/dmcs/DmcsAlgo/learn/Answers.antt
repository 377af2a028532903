-- What a good state gives fits the act, by what is true of the queue.
use Rattle.std.proofs.Common.{sym, subst, length}
use Rattle.rl_queue.specs.Queue.{PlanFits, GotFits}
use Rattle.rl_queue.specs.laws.DmcsLaws.{fits_at, got_fits_at}
use Rattle.rl_queue.proofs.dmcs.DmcsAlgo.learn.Goals as goal

pub queue_learn-turn-requires-clause-named : goal.queue_learn-turn-requires-clause-named
queue_learn-turn-requires-clause-named c =
    subst (λ z. PlanFits z c.args.view.now.member c.args.view.now.phase) (sym c.args.self.now.named)
    (fits_at (length c.args.self.now.node_of.items) c.requires.may.state c.requires.may.rank c.args.view.now.member c.args.view.now.phase c.requires.may.is_good c.requires.may.has)

pub queue_learn-turn-requires-clause-fits : goal.queue_learn-turn-requires-clause-fits
queue_learn-turn-requires-clause-fits c =
    subst (GotFits c.args.view.now.phase) (sym c.requires.may.gives)
    (got_fits_at (length c.args.self.now.node_of.items) c.requires.may.state c.requires.may.rank c.args.view.now.member c.args.view.now.phase c.requires.may.act c.args.self.now.seated.few c.requires.may.is_good c.requires.may.has c.requires.may.planned)
