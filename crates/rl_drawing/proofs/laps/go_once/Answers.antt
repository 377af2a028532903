-- The step was made, and is a turn.
use Rattle.std.proofs.Common.{arith}
use Rattle.rl_drawing.proofs.Stages.{may_step, steps_on}
use Rattle.rl_drawing.proofs.laps.go_once.Goals as goal

pub step_looking-requires : goal.step_looking-requires
step_looking-requires g c =
    let may = may_step g.C.ShardCore.says g.C.ShardCore.defined c.args.scene c.args.stage.now c.requires.stage c.args.rank c.requires.scene c.requires.there in
    record { scene = c.requires.scene; there = omega (arith, may.0); few = omega (arith, may.1) }

pub returns-clause-stage : goal.returns-clause-stage
returns-clause-stage g c =
    steps_on g.C.ShardCore.says g.C.ShardCore.defined c.args.scene c.args.stage.now c.requires.stage c.step_looking.new.machine c.push.new.self c.args.rank _ 1 c.in_ok-shown.ensures.stepped (omega arith) c.in_ok-push.ensures.ok (omega arith) c.requires.there
