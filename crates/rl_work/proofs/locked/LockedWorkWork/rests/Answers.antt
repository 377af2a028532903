-- A block that is under way is a holder's, by the rule.
use Rattle.std.proofs.Common.{sym, ◌∙◌}
use Rattle.rl_work.specs.laws.RestLaws.{holder_rests, under_way_holds}
use Rattle.rl_work.proofs.locked.LockedWorkWork.rests.Goals as goal

pub returns : goal.returns
returns c = λ e words sides r st side.
    holder_rests st (under_way_holds _ _ sides side.is_good r _ side.there (sym c.is_under_way.ensures ∙ e))
