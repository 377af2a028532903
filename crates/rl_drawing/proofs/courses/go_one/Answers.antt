-- A stop makes no step.
use Rattle.std.proofs.Common.{◌≡◌, ◌+◌, refl, arith}
use Rattle.rl_ops.specs.declared.schedule.Turn.TheVariants as turn
use Rattle.rl_machine.specs.Running.{running}
use Rattle.rl_drawing.proofs.Stages.{stage_on}
use Rattle.rl_drawing.proofs.courses.go_one.Goals as goal

pub returns-in_ok-push-in-Stop-clause-stage : goal.returns-in_ok-push-in-Stop-clause-stage
returns-in_ok-push-in-Stop-clause-stage g c =
    let stage = c.args.stage.now in
    let m = running g.C.ShardCore.says stage.machine in
    let all : stage.left + 0 ≡ stage.left = omega arith in
    stage_on g.C.ShardCore.defined c.args.scene.place.now c.args.scene.ops.now m m stage.turns c.push.new.self (turn.Stop c.args.rank) stage.left stage.left
    c.requires.stage refl c.in_ok-push-in-Stop.ensures.ok all c.requires.there
