-- By where a rank is in its call, and by the rule.
use Rattle.std.proofs.Common.{◌∙◌, ap}
use Rattle.rl_combine.specs.Posts.{node_in}
use Rattle.rl_combine.specs.laws.StandLaws.{busy_rests}
use Rattle.rl_combine.proofs.combine.CombineWorkWork.rests.Goals as goal

pub returns-in_default : goal.returns-in_default
returns-in_default c = λ e words sides r st side.
    busy_rests c.args.self.now.here (node_in c.args.self.now) words side.laid sides side.is_good r _ side.there
    (λ is. c.in_default.not-Rest (ap (λ s. s.stage) c.side.view_is ∙ is)) (λ is. c.in_default.not-Look (ap (λ s. s.stage) c.side.view_is ∙ is))
