-- The steps were made up to and with the one that shows it, and are a turn.
use Rattle.std.proofs.Common.{◌≡◌, ◌+◌, ◌<◌, refl, subst, arith}
use Rattle.rl_ops.specs.declared.schedule.Turn.TheVariants as turn
use Rattle.rl_machine.specs.Running.{running}
use Rattle.rl_drawing.specs.Drawing.{IsFirst}
use Rattle.rl_drawing.specs.Leads.{sees}
use Rattle.rl_drawing.proofs.Leading.{until_same}
use Rattle.rl_drawing.proofs.Stages.{may_step, steps_on}
use Rattle.rl_drawing.proofs.courses.go_until.Goals as goal

pub steps_before-requires : goal.steps_before-requires
steps_before-requires g c =
    let may = may_step g.C.ShardCore.says g.C.ShardCore.defined c.args.scene c.args.stage.now c.requires.stage c.args.rank c.requires.scene c.requires.there in
    record { scene = c.requires.scene; there = omega (arith, may.0); few = omega (arith, may.1) }

pub returns-clause-stage : goal.returns-clause-stage
returns-clause-stage g c =
    let few : c.in_ok-before.before < c.args.stage.now.left = c.in_ok-before.ensures.few in
    steps_on g.C.ShardCore.says g.C.ShardCore.defined c.args.scene c.args.stage.now c.requires.stage c.steps_before.new.machine c.push.new.self c.args.rank _ (c.in_ok-before.before + 1) c.in_ok-before.ensures.run (omega arith) c.in_ok-push.ensures.ok (omega (arith, few)) c.requires.there

pub returns-clause-draws : goal.returns-clause-draws
returns-clause-draws g c =
    let m = running g.C.ShardCore.says c.args.stage.now.machine in
    let shown = sees c.args.scene.place.now c.args.sought in
    let n = c.in_ok-before.before in
    let same : c.from.result ≡ c.args.rank = omega arith in
    let first : IsFirst shown m c.args.rank n = subst (λ k. IsFirst shown m k n) same c.in_ok-before.ensures.first in
    (turn.Steps c.args.rank (n + 1), c.in_ok-push.ensures.ok, (n, refl, first), until_same shown m c.args.rank n first)
