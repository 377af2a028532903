use Rattle.std.proofs.Common.{◌≡◌, ◌+◌, ◌-◌, length, false, ap, sym, ◌∙◌, arith}
use Rattle.rl_machine.specs.Running.{running}
use Rattle.rl_making.specs.Laps.{goes_on, turns, laps}
use Rattle.rl_making.proofs.LapLaws.{laps_alike, no_lap, lap_more, all_made}
use Rattle.rl_making.proofs.laps.make_laps.Goals as goal

pub loop-init : goal.loop-init
loop-init g c = (sym (no_lap c.args.most (running g.C.ShardCore.says c.args.machine.now)), c.in_ok-rests.ensures.many, c.in_ok-rests.ensures.rested)

pub goes_on-requires : goal.goes_on-requires
goes_on-requires g c =
    let old = running g.C.ShardCore.says c.args.machine.now in
    let same : length c.loop.machine.calls ≡ length old.calls = ap (λ m. length m.calls) c.loop.invariant.0 ∙ ap length (laps_alike c.args.most old c.loop.counter).calls in
    c.requires ∙ sym same

pub take_turns-requires-clause-there : goal.take_turns-requires-clause-there
take_turns-requires-clause-there g c =
    let old = running g.C.ShardCore.says c.args.machine.now in
    let same : length c.loop.machine.calls ≡ length old.calls = ap (λ m. length m.calls) c.loop.invariant.0 ∙ ap length (laps_alike c.args.most old c.loop.counter).calls in
    let all : c.args.ranks ≡ length old.calls = c.requires in
    omega (arith, all, same)

pub take_turns-requires-clause-many : goal.take_turns-requires-clause-many
take_turns-requires-clause-many g c =
    let old = running g.C.ShardCore.says c.args.machine.now in
    let same : length c.loop.machine.calls ≡ length old.calls = ap (λ m. length m.calls) c.loop.invariant.0 ∙ ap length (laps_alike c.args.most old c.loop.counter).calls in
    c.loop.invariant.1 ∙ sym same

pub returns-then-not-goes_on : goal.returns-then-not-goes_on
returns-then-not-goes_on g c =
    let old = running g.C.ShardCore.says c.args.machine.now in
    let most = c.args.most in
    let n = c.loop.counter in
    let low = c.loop-test.true in
    let off : goes_on most (laps most old n) ≡ false = ap (goes_on most) (sym c.loop.invariant.0) ∙ sym c.goes_on.ensures ∙ c.if-not-goes_on.true in
    let all : (most - n) + n ≡ most = omega (arith, low) in
    c.loop.invariant.0 ∙ sym (all_made most old n (most - n) off) ∙ ap (laps most old) all

pub loop-preserved : goal.loop-preserved
loop-preserved g c =
    let old = running g.C.ShardCore.says c.args.machine.now in
    let most = c.args.most in
    let n = c.loop.counter in
    let now = laps most old n in
    let same : length now.calls ≡ length old.calls = ap length (laps_alike most old n).calls in
    let took = c.in_ok-take_turns.ensures in (
      took.turns
          ∙ ap (λ m. turns most m c.args.ranks) c.loop.invariant.0
          ∙ ap (turns most now) (c.requires ∙ sym same)
          ∙ sym (lap_more most old n (ap (goes_on most) (sym c.loop.invariant.0) ∙ sym c.goes_on.ensures ∙ c.if-not-goes_on.false)),
      took.many ∙ c.loop.invariant.1,
      took.rested,
    )
