-- One line more.
use Rattle.std.proofs.Common.{◌≡◌, ◌+◌, length, drop, ap, sym, subst, ◌∙◌, arith}
use Rattle.rl_place.specs.Places.{ThePlace}
use Rattle.rl_machine.specs.Running.{running}
use Rattle.rl_sketch.specs.Sketch.{stopped_after, LinesFit}
use Rattle.rl_drawing.proofs.Lines.{next_fits, line_added, stopped_on, never_is}
use Rattle.rl_drawing.proofs.drawing.draw_lines.Goals as goal

pub returns-in-Err-Never : goal.returns-in-Err-Never
returns-in-Err-Never g c =
    let none = rw c.in-Err-Never.field-0-is at c.in-Err-Never.ensures.draws in
    never_is g.C.ShardCore.defined c.args.scene.place.now c.args.scene.ops.now c.args.lines.now c.loop-line.line-index c.line-item.result c.loop-line-test.true c.line-item.is
    (running g.C.ShardCore.says c.loop-line.stage.machine) c.as_slice.result.now c.loop-line.stage.turns c.loop-line.stage.left c.loop-line.number c.loop-line.invariant.0 c.loop-line.invariant.1
    (c.as_slice.ensures.value ∙ c.loop-line.invariant.2) c.loop-line.invariant.4 none

pub loop-line-preserved : goal.loop-line-preserved
loop-line-preserved g c =
    let place = c.args.scene.place.now in
    let n = length place.paths in
    let lines = c.args.lines.now in
    let i = c.loop-line.line-index in
    let next = c.line-item.result in
    let low = c.loop-line-test.true in
    let is = c.line-item.is in
    let paths = ap (λ (p : ThePlace). length p.paths) c.place.view_is in
    let same : c.len-ranks.result ≡ n = omega (arith, paths) in
    let after : c.add_stopped.new.stopped.items ≡ stopped_after n c.loop-line.stopped.items next = c.in_ok-add_stopped.ensures ∙ ap (λ k. stopped_after k c.loop-line.stopped.items next) same in
    let counted = c.loop-line.invariant.4 in (
      c.in-Ok.ensures.stage,
      line_added g.C.ShardCore.defined place c.args.scene.ops.now lines i next low is (running g.C.ShardCore.says c.loop-line.stage.machine) c.as_slice.result.now c.loop-line.stage.turns c.draw_line.new.stage.turns c.loop-line.stage.left
          c.loop-line.invariant.0 c.loop-line.invariant.1 (c.as_slice.ensures.value ∙ c.loop-line.invariant.2) c.in-Ok.ensures.draws,
      stopped_on g.C.ShardCore.defined place c.args.scene.ops.now lines i next low is n c.loop-line.stopped.items c.add_stopped.new.stopped.items c.loop-line.invariant.2 after,
      subst (λ s. LinesFit n s (drop (i + 1) lines)) (sym after) (next_fits n c.loop-line.stopped.items lines i next low is c.loop-line.invariant.3).1,
      omega (arith, counted),
    )
