-- A turn of fewer steps has the first of its ranks.
use Rattle.std.proofs.Common.{replicate, take, ap, sym, ◌∙◌}
use Rattle.rl_machine.specs.Run.{turn_ranks}
use Rattle.rl_shown.proofs.FrontLaws.{take_same}
use Rattle.rl_shown.proofs.front.shortened.Goals as goal

pub returns-in-Steps-clause-ranks : goal.returns-in-Steps-clause-ranks
returns-in-Steps-clause-ranks c = ap (λ n. replicate n c.in-Steps.rank) c.min.ensures ∙ take_same c.in-Steps.count c.args.most c.in-Steps.rank ∙ ap (λ t. take c.args.most (turn_ranks t)) (sym c.in-Steps.is)
