use Rattle.std.proofs.Common.{◌≡◌, arith}
use Rattle.rl_sketch.proofs.SightLaws.{one-dropped, none-dropped, all-dropped}
use Rattle.rl_sketch.proofs.sight_reader.behind_words.Goals as goal

pub loop-preserved : goal.loop-preserved
loop-preserved c = one-dropped c.args.text.now c.loop.rest.now c.in-Some.field-0-0.now c.in-Some.after.now c.loop.counter c.loop.invariant c.in-Some.ensures.0

pub returns-in-None : goal.returns-in-None
returns-in-None c = absurd (none-dropped c.args.text.now c.loop.rest.now c.loop.counter c.args.count c.loop.invariant c.in-None.ensures c.loop-test.true c.requires)

pub returns : goal.returns
returns c =
    let all : c.loop.counter ≡ c.args.count = omega (arith, c.loop-test.false, c.loop.auto.counter-end) in
    all-dropped c.args.text.now c.loop.rest.now c.args.count (rw all at c.loop.invariant)
