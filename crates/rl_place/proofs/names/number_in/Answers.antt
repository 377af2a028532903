use Rattle.std.proofs.Common.{sym, ◌∙◌}
use Rattle.rl_place.proofs.ElementLoop.{not_found}
use Rattle.rl_place.proofs.names.number_in.Goals as goal

pub returns-in-None : goal.returns-in-None
returns-in-None c = c.len.ensures.len ∙ sym (not_found _ _ (sym c.in-None.ensures.index))
