-- One turn more.
use Rattle.std.proofs.Common.{◌≡◌, ◌<◌, ◌≤◌, length, nat_lt, ap, sym, ◌∙◌, arith}
use Rattle.std.proofs.lemmas.Bool.{lt-ltb, le-ltb}
use Rattle.rl_step.specs.Answers.{steps_made}
use Rattle.rl_machine.specs.Running.{running}
use Rattle.rl_machine.specs.Run.{stepped}
use Rattle.rl_making.specs.Laps.{may_step, stepped_if, turns}
use Rattle.rl_making.proofs.LapLaws.{turns_alike, turn_more, may_left}
use Rattle.rl_making.proofs.laps.take_turns.Goals as goal
use Rattle.rl_making.proofs.laps.take_turns.Goals.{then-left-gt0+in_ok-take_steps, else-left-gt0}

pub take_steps-requires-clause-there : goal.take_steps-requires-clause-there
take_steps-requires-clause-there g c =
    let old = running g.C.ShardCore.says c.args.machine.now in
    let same : length c.loop-rank.machine.calls ≡ length old.calls = ap (λ m. length m.calls) c.loop-rank.invariant.0 ∙ ap length (turns_alike c.args.most old c.loop-rank.rank).calls in
    let low : c.loop-rank.rank < c.args.ranks = c.loop-rank-test.true in
    let there : c.args.ranks ≤ length old.calls = c.requires.there in
    omega arith

pub take_steps-requires-clause-few : goal.take_steps-requires-clause-few
take_steps-requires-clause-few g c =
    let is = c.loop-rank.invariant.3 in
    let some = c.if-left-gt0.true in
    omega (arith, is, some, c.ranges.most.fits)

pub take_steps-requires-clause-many : goal.take_steps-requires-clause-many
take_steps-requires-clause-many g c =
    let old = running g.C.ShardCore.says c.args.machine.now in
    let same : length c.loop-rank.machine.calls ≡ length old.calls = ap (λ m. length m.calls) c.loop-rank.invariant.0 ∙ ap length (turns_alike c.args.most old c.loop-rank.rank).calls in
    c.loop-rank.invariant.1 ∙ c.requires.many ∙ sym same

pub loop-rank-preserved : goal.loop-rank-preserved
loop-rank-preserved g c =
    let old = running g.C.ShardCore.says c.args.machine.now in
    let now = running g.C.ShardCore.says c.loop-rank.machine in
    let most = c.args.most in
    let n = c.loop-rank.rank in
    let is = c.loop-rank.invariant.0 in
    let left = c.loop-rank.invariant.3 in
    let may : may_step most now ≡ nat_lt 0 c.loop-rank.left = may_left most (steps_made c.loop-rank.machine.steps) c.loop-rank.left left in
    elim c.if-left-gt0.branch [
      | then-left-gt0+in_ok-take_steps w ↦
          let took = w.in_ok-take_steps.ensures in
          rw w.machine-is
          (rw w.rests-is
          (took.run ∙ ap (λ m. stepped m n) is ∙ ap (λ b. stepped_if b (turns most old n) n) (sym (ap (may_step most) (sym is) ∙ may ∙ lt-ltb 0 c.loop-rank.left w.if-left-gt0.true)) ∙ sym (turn_more most old n), took.many ∙ c.loop-rank.invariant.1, took.rested, (let steps = took.steps in let one = w.left-is in omega (arith, steps, one, left))))
      | else-left-gt0 w ↦
          rw w.machine-is
          (rw w.rests-is
          (is ∙ ap (λ b. stepped_if b (turns most old n) n) (sym (ap (may_step most) (sym is) ∙ may ∙ le-ltb 0 c.loop-rank.left w.if-left-gt0.false)) ∙ sym (turn_more most old n), c.loop-rank.invariant.1, c.loop-rank.invariant.2, w.left-is ∙ left))
    ]
