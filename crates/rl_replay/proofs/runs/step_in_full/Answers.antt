-- What was noted of the other ranks is true after the step as before.
use Rattle.std.proofs.Common.{sym, subst}
use Rattle.rl_machine.specs.Running.{running}
use Rattle.rl_replay.specs.Rested.{AllRested}
use Rattle.rl_replay.specs.laws.RestedLaws.{all_set, all_stepped}
use Rattle.rl_replay.proofs.runs.step_in_full.Goals as goal
use Rattle.rl_replay.proofs.runs.step_in_full.Goals.{In_ok-end}
use Rattle.rl_replay.proofs.runs.step_in_full.Given.{Over}

noted : (g : Over) (c : In_ok-end g) → AllRested g.C.Resting.with_sight (running g.C.ShardCore.says c.step_told.new.self) c.forget.new.rests.items
noted g c =
    let see = g.C.Resting.with_sight in
    let old = running g.C.ShardCore.says c.args.machine.now in
    let kept = subst (AllRested see old) (sym c.forget.ensures.only) (all_set see old c.args.rests.now.items c.args.rank _ tt c.requires.rested) in
    subst (λ m. AllRested see m c.forget.new.rests.items) (sym c.in_ok-end.ensures.stepped) (all_stepped see old c.forget.new.rests.items c.args.rank c.forget.ensures.forgotten kept)

pub returns-then-eq-clause-rested : goal.returns-then-eq-clause-rested
returns-then-eq-clause-rested g c = noted g (goal.at.returns-then-eq-clause-rested g c).In_ok-end

pub look-requires-clause-rested : goal.look-requires-clause-rested
look-requires-clause-rested g c = noted g (goal.at.look-requires-clause-rested g c).In_ok-end
