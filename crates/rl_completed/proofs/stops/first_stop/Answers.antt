-- Where no turn stops its rank each makes steps.
use Rattle.std.proofs.Common.{sym, ◌∙◌}
use Rattle.rl_completed.proofs.CompletingLaws.{no_stop}
use Rattle.rl_completed.proofs.stops.first_stop.Goals as goal

pub returns-in-None-clause-none : goal.returns-in-None-clause-none
returns-in-None-clause-none c = λ none. no_stop c.args.turns.now (sym c.turns_before_stop.ensures ∙ c.in-None.is)
