-- A made atom is never answered Finished, by the core's law.
use Rattle.rl_step.specs.laws.CoreLemmas.{performs_answers}
use Rattle.rl_step.proofs.port.advance.Goals as goal

pub returns-in-Some-clause-goes_on : goal.returns-in-Some-clause-goes_on
returns-in-Some-clause-goes_on g c = λ v at sv next.
    let w = g.met.P.Port.seen c.perform.new.self c.args.core.now c.perform.ensures.fits in
    performs_answers (g.C.Core.table c.args.core.now) (g.C.Core.rule c.args.core.now) (g.met.C.Core.laws c.args.core.now) _ v w.0 _ _ _ _ _ (c.perform.ensures.made v w.0 sv w.1)
