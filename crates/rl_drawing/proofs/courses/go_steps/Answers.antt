-- The steps are made, and are a turn.
use Rattle.std.proofs.Common.{arith}
use Rattle.rl_drawing.proofs.Stages.{may_step, steps_on}
use Rattle.rl_drawing.proofs.courses.go_steps.Goals as goal

pub make_steps-requires : goal.make_steps-requires
make_steps-requires g c =
    let may = may_step g.C.ShardCore.says g.C.ShardCore.defined c.args.scene c.args.stage.now c.requires.stage c.args.rank c.requires.scene c.requires.there in
    record { there = omega (arith, may.0); few = omega (arith, may.1) }

pub returns-clause-stage : goal.returns-clause-stage
returns-clause-stage g c =
    steps_on g.C.ShardCore.says g.C.ShardCore.defined c.args.scene c.args.stage.now c.requires.stage c.make_steps.new.machine c.push.new.self c.args.rank _ c.args.count c.in_ok-make_steps.ensures.run (omega arith) c.in_ok-push.ensures.ok (omega arith) c.requires.there
