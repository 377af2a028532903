-- By where a rank is in its block, and by the rule.
use Rattle.std.proofs.Common.{sym, ◌∙◌, ap}
use Rattle.rl_work.specs.Work.{is_under_way}
use Rattle.rl_seq.specs.Place.{at_of}
use Rattle.rl_seq.specs.laws.StandLaws.{inside_rests, outside_rests}
use Rattle.rl_seq.proofs.way.SeqWorkWork.rests.Goals as goal

pub returns-in-Locked : goal.returns-in-Locked
returns-in-Locked c = λ e words sides r st side.
    inside_rests (at_of c.args.self.now) words sides side.is_good r _ side.there (ap (λ s. s.stage) (sym c.side.view_is) ∙ c.in-Locked.is)
    (ap (λ s. is_under_way s.work.stage) (sym c.side.view_is) ∙ sym c.is_under_way.ensures ∙ e)

pub returns-in_default : goal.returns-in_default
returns-in_default c = λ e words sides r st side.
    outside_rests (at_of c.args.self.now) words sides side.is_good r _ side.there
    (λ is. c.in_default.not-Locked (ap (λ s. s.stage) c.side.view_is ∙ is))
