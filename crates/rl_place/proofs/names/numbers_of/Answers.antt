use Rattle.std.proofs.Common.{◌<◌, length, arith}
use Rattle.rl_place.specs.Shapes.{number_in}
use Rattle.rl_place.proofs.ElementLoop.{map_more}
use Rattle.rl_place.proofs.names.numbers_of.Goals as goal

pub loop-path-preserved : goal.loop-path-preserved
loop-path-preserved c =
    let within : c.loop-path.path-index < length c.args.paths.now = omega (arith, c.loop-path-test.true, c.loop-path.auto.path-index-end) in
    map_more (number_in c.args.seen.now.keys) c.args.paths.now c.loop-path.path-index _ _ _ _ within c.loop-path.invariant c.in_ok-push.ensures.items c.number_in.ensures
