-- The rank that waits first makes a step.
use Rattle.std.proofs.Common.{◌≡◌, ◌+◌, ◌<◌, ◌++◌, [], ◌∷◌, Bool, cond, drop, eqb-true, length, ap, sym, subst, ◌∙◌, arith}
use Rattle.std.specs.Vec.{vec_len}
use Rattle.std.specs.List.{AllByRecursion}
use Rattle.std.proofs.lemmas.Result.{err_from_is_err_and}
use Rattle.rl_ops.specs.Schedule.{steps_of}
use Rattle.rl_machine.specs.Running.{running}
use Rattle.rl_machine.specs.Run.{steps_in}
use Rattle.rl_sketch.proofs.Outcomes.{differ}
use Rattle.rl_drawing.specs.Drawing.{AreInTurn}
use Rattle.rl_drawing.specs.Leads.{sees}
use Rattle.rl_drawing.proofs.Leading.{leads_none, in_turn_on, in_turn_fails, in_turn_end, first_waits, others_wait, steps_append}
use Rattle.rl_drawing.proofs.Stages.{same_left}
use Rattle.rl_drawing.proofs.Stopping.{all_get, left_of}
use Rattle.rl_drawing.proofs.laps.go_in_turn.Goals as goal

pub loop-init : goal.loop-init
loop-init g c = (c.requires.stage, leads_none _ c.args.stage.now.turns, c.requires.there, omega arith)

pub returns-then-is_empty-clause-draws : goal.returns-then-is_empty-clause-draws
returns-then-is_empty-clause-draws g c =
    let shown = sees c.args.scene.place.now c.args.sought in
    let zero = eqb-true (vec_len c.loop.waiting) 0 (sym c.is_empty.ensures ∙ c.if-is_empty.true) in
    let none : length c.loop.waiting.items ≡ 0 = omega (arith, zero) in
    in_turn_end shown (AreInTurn shown (running g.C.ShardCore.says c.args.stage.now.machine) c.args.ranks.items) (running g.C.ShardCore.says c.loop.stage.machine) c.loop.waiting.items c.args.stage.now.turns c.loop.stage.turns none c.loop.invariant.1

pub go_once-requires-clause-there : goal.go_once-requires-clause-there
go_once-requires-clause-there g c =
    let zero = differ (vec_len c.loop.waiting) 0 (sym c.is_empty.ensures ∙ c.if-is_empty.false) in
    let some : 0 < length c.loop.waiting.items = omega (arith, zero) in
    subst (λ k. k < length c.args.scene.place.now.paths) (sym c.remove-rank.ensures.value) (all_get (λ k. k < length c.args.scene.place.now.paths) c.loop.waiting.items 0 c.remove-rank.result c.loop.invariant.2 some)

pub loop-preserved : goal.loop-preserved
loop-preserved g c =
    let shown = sees c.args.scene.place.now c.args.sought in
    let m = running g.C.ShardCore.says c.loop.stage.machine in
    let now = running g.C.ShardCore.says c.go_once.new.stage.machine in
    let ws = c.loop.waiting.items in
    let k = c.remove-rank.result in
    let zero = differ (vec_len c.loop.waiting) 0 (sym c.is_empty.ensures ∙ c.if-is_empty.false) in
    let some : 0 < length ws = omega (arith, zero) in
    let next : ws ≡ k ∷ drop 1 ws = first_waits ws k some ∙ ap (λ i. i ∷ drop 1 ws) (sym c.remove-rank.ensures.value) in
    let others : c.remove-rank.new.self.items ≡ drop 1 ws = others_wait ws c.remove-rank.new.self.items c.remove-rank.ensures.by_index.2 in
    let d = c.in_ok-shown.ensures.draws in
    let left : c.come_again.new.waiting.items ≡ cond (shown m k) (drop 1 ws) (drop 1 ws ++ k ∷ []) =
    c.in_ok-come_again.ensures ∙ ap (λ b. cond b c.remove-rank.new.self.items (c.remove-rank.new.self.items ++ k ∷ [])) c.in_ok-shown.ensures.shown ∙ ap (λ js. cond (shown m k) js (js ++ k ∷ [])) others in
    let fewer = same_left g.C.ShardCore.says g.C.ShardCore.defined c.args.scene c.loop.stage c.loop.invariant.0 c.go_once.new.stage c.in_ok-shown.ensures.stage in
    let one : steps_in c.go_once.new.stage.turns ≡ steps_in c.loop.stage.turns + (1 + 0) = ap steps_in d.1 ∙ steps_append c.loop.stage.turns (d.0 ∷ []) ∙ ap (λ t. steps_in c.loop.stage.turns + (steps_of t + 0)) d.2 in
    let count = c.loop.invariant.3 in (
      c.in_ok-shown.ensures.stage,
      in_turn_on shown (AreInTurn shown (running g.C.ShardCore.says c.args.stage.now.machine) c.args.ranks.items) m now ws (drop 1 ws) c.come_again.new.waiting.items k c.args.stage.now.turns c.loop.stage.turns c.go_once.new.stage.turns d.0
          next c.loop.invariant.1 d.1 d.2 c.in_ok-shown.ensures.stepped left,
      subst (AllByRecursion (λ i. i < length c.args.scene.place.now.paths)) (sym left) (left_of (λ i. i < length c.args.scene.place.now.paths) (shown m k) k (drop 1 ws) (subst (AllByRecursion (λ i. i < length c.args.scene.place.now.paths)) next c.loop.invariant.2)),
      omega (arith, fewer, one, count),
    )

pub returns-in_err-shown-clause-draws : goal.returns-in_err-shown-clause-draws
returns-in_err-shown-clause-draws g c =
    let p = err_from_is_err_and c.from_residual.result c.from_residual.ensures.1 in
    let shown = sees c.args.scene.place.now c.args.sought in
    let first = running g.C.ShardCore.says c.args.stage.now.machine in
    let m = running g.C.ShardCore.says c.loop.stage.machine in
    let ws = c.loop.waiting.items in
    let k = c.remove-rank.result in
    let zero = differ (vec_len c.loop.waiting) 0 (sym c.is_empty.ensures ∙ c.if-is_empty.false) in
    let some : 0 < length ws = omega (arith, zero) in
    let next : ws ≡ k ∷ drop 1 ws = first_waits ws k some ∙ ap (λ i. i ∷ drop 1 ws) (sym c.remove-rank.ensures.value) in
    let same = same_left g.C.ShardCore.says g.C.ShardCore.defined c.args.scene c.args.stage.now c.requires.stage c.loop.stage c.loop.invariant.0 in
    rw (p.1, p.2) (in_turn_fails shown Bool (Unit {0}) (AreInTurn shown first c.args.ranks.items) m ws (drop 1 ws) k c.args.stage.now.turns c.loop.stage.turns c.go_once.new.stage.turns c.go_once.new.stage.turns c.args.stage.now.left c.loop.stage.left
    c.in_err-shown.field-0.0 next c.loop.invariant.1 same c.in_err-shown.ensures.draws)

pub returns-clause-draws : goal.returns-clause-draws
returns-clause-draws g c = let count = c.loop.invariant.3 in absurd (omega (arith, count))
