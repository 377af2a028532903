use Rattle.rl_place.proofs.Printing.{one_more}
use Rattle.rl_place.proofs.ShapePrinting.{lines-more}
use Rattle.rl_making.specs.declared.counts.ShardCounts.{ShardCounts}
use Rattle.rl_making.specs.Summary.{shard_words}
use Rattle.rl_making.proofs.summary.put_shards.Goals as goal

pub loop-number-preserved : goal.loop-number-preserved
loop-number-preserved c =
    let none : ShardCounts = record { updates = 0; reads = 0; settled = 0; passed = 0 } in
    one_more _ _ _ _ _ _ c.loop-number.invariant c.in_ok-put_shard.ensures (lines-more shard_words c.args.shards.now c.loop-number.number none c.loop-number-test.true)
