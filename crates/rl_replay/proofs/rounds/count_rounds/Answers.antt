-- So many rounds are so many answers counted.
use Rattle.std.proofs.Common.{◌≡◌, ap, sym, ◌∙◌}
use Rattle.rl_core.specs.Rounds.{leg_answer}
use Rattle.rl_machine.specs.Rest.{counted_more, with_steps}
use Rattle.rl_machine.specs.Running.{running}
use Rattle.rl_replay.specs.laws.RoundLaws.{counted_rounds, rounds_run}
use Rattle.rl_replay.proofs.rounds.count_rounds.Goals as goal
use Rattle.rl_replay.proofs.rounds.count_rounds.Goals.{After-count_more-2}
use Rattle.rl_replay.proofs.rounds.count_rounds.Given.{Over}

-- the machine with both answers counted
now : (g : Over) (c : After-count_more-2 g) →
    running g.C.ShardCore.says c.count_more-2.new.self ≡ with_steps (running g.C.ShardCore.says c.args.machine.now) (counted_rounds c.args.round c.args.rounds c.args.machine.now.steps)
now g c =
    let m = running g.C.ShardCore.says c.args.machine.now in
    let n = c.args.rounds in
    let here = c.count_more.ensures.counted ∙ ap (λ a. with_steps m (counted_more a n m.steps)) c.answer.ensures in
    c.count_more-2.ensures.counted ∙ ap (λ a. with_steps (running g.C.ShardCore.says c.count_more.new.self) (counted_more a n c.count_more.new.self.steps)) c.answer-2.ensures
    ∙ ap (λ z. with_steps z (counted_more (leg_answer c.args.round.there) n z.steps)) here

pub returns-clause-run : goal.returns-clause-run
returns-clause-run g c = λ rank s count within shown.
    let m = running g.C.ShardCore.says c.args.machine.now in
    now g (goal.at.returns-clause-run g c).After-count_more-2
    ∙ sym (rounds_run g.C.Resting.with_sight rank s c.args.round m shown.0 c.args.rounds count within shown.1)

pub returns-clause-counted : goal.returns-clause-counted
returns-clause-counted g c =
    let m = running g.C.ShardCore.says c.args.machine.now in
    let is = now g (goal.at.returns-clause-counted g c).After-count_more-2 in
    is ∙ ap (with_steps m) (sym (ap (λ z. z.steps) is))
