use Rattle.std.proofs.Common.{◌<◌, length, arith}
use Rattle.rl_place.specs.ShapeText.{shard_words}
use Rattle.rl_place.proofs.Printing.{one_more}
use Rattle.rl_place.proofs.ShapePrinting.{lines-more}
use Rattle.rl_place.proofs.shape_printer.put_shards.Goals as goal

pub loop-shard-preserved : goal.loop-shard-preserved
loop-shard-preserved c =
    let within : c.loop-shard.shard < length c.args.homes.now = omega (arith, c.loop-shard-test.true, c.loop-shard.auto.shard-end) in
    one_more _ _ _ _ _ _ c.loop-shard.invariant c.in_ok-put_shard.ensures (lines-more shard_words c.args.homes.now c.loop-shard.shard 0 within)
