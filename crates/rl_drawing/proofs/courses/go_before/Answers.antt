-- The steps were made up to the one that shows it, and are a turn; the machine is made anew.
use Rattle.std.proofs.Common.{◌≡◌, ◌+◌, ◌-◌, ◌<◌, [], ◌∷◌, refl, ap, subst, ◌∙◌, arith}
use Rattle.rl_ops.specs.declared.schedule.Turn.TheVariants as turn
use Rattle.rl_machine.specs.Running.{running}
use Rattle.rl_machine.specs.Run.{run_of, ranks_of_turns, steps_in}
use Rattle.rl_locks.specs.Runs.{start_with}
use Rattle.rl_drawing.specs.Drawing.{IsFirst}
use Rattle.rl_drawing.specs.Leads.{sees}
use Rattle.rl_drawing.proofs.Leading.{steps_append, before_same}
use Rattle.rl_drawing.proofs.Stages.{may_step, stage_anew}
use Rattle.rl_drawing.proofs.courses.go_before.Goals as goal

pub steps_before-requires : goal.steps_before-requires
steps_before-requires g c =
    let may = may_step g.C.ShardCore.says g.C.ShardCore.defined c.args.scene c.args.stage.now c.requires.stage c.args.rank c.requires.scene c.requires.there in
    record { scene = c.requires.scene; there = omega (arith, may.0); few = omega (arith, may.1) }

pub machine_after-requires-clause-few : goal.machine_after-requires-clause-few
machine_after-requires-clause-few g c =
    let stage = c.args.stage.now in
    let few : c.in_ok-count.count < stage.left + 1 = c.in_ok-count.ensures.few in
    let all : stage.left + steps_in stage.turns ≡ 2000000 = c.requires.stage.left_is in
    let long : steps_in c.push.new.self ≡ steps_in stage.turns + (c.in_ok-count.count + 0) = ap steps_in c.in_ok-push.ensures.ok ∙ steps_append stage.turns (turn.Steps c.args.rank c.in_ok-count.count ∷ []) in
    let same = c.as_slice.ensures in
    let here : steps_in c.as_slice.result.now ≡ steps_in c.push.new.self = ap steps_in same in
    omega (arith, few, all, long, here)

pub returns-clause-stage : goal.returns-clause-stage
returns-clause-stage g c =
    let stage = c.args.stage.now in
    let few : c.in_ok-count.count < stage.left + 1 = c.in_ok-count.ensures.few in
    let fewer : (stage.left - c.in_ok-count.count) + c.in_ok-count.count ≡ stage.left = omega (arith, few) in
    stage_anew g.C.ShardCore.defined c.args.scene.place.now c.args.scene.ops.now (running g.C.ShardCore.says stage.machine) _ stage.turns c.push.new.self (turn.Steps c.args.rank c.in_ok-count.count) stage.left (stage.left - c.in_ok-count.count)
    c.requires.stage (c.in_ok-stage.ensures ∙ ap (λ ts. run_of (start_with g.C.ShardCore.defined c.args.scene.place.now c.args.scene.ops.now) (ranks_of_turns ts)) c.as_slice.ensures) c.in_ok-push.ensures.ok fewer c.requires.there

pub returns-clause-draws : goal.returns-clause-draws
returns-clause-draws g c =
    let m = running g.C.ShardCore.says c.args.stage.now.machine in
    let shown = sees c.args.scene.place.now c.args.sought in
    let n = c.in_ok-count.count in
    let same : c.from.result ≡ c.args.rank = omega arith in
    let first : IsFirst shown m c.args.rank n = subst (λ k. IsFirst shown m k n) same c.in_ok-count.ensures.first in
    (turn.Steps c.args.rank n, c.in_ok-push.ensures.ok, (n, refl, first), before_same shown m c.args.rank n first)
