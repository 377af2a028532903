use Rattle.std.proofs.Common.{◌<◌, length, arith}
use Rattle.rl_place.proofs.Printing.{one_more, ranks-more}
use Rattle.rl_place.proofs.printer.put_ranks.Goals as goal

pub loop-rank-preserved : goal.loop-rank-preserved
loop-rank-preserved c =
    let within : c.loop-rank.rank < length c.args.paths.now = omega (arith, c.loop-rank-test.true, c.loop-rank.auto.rank-end) in
    one_more _ _ _ _ _ _ c.loop-rank.invariant c.in_ok-put_rank.ensures (ranks-more c.args.paths.now c.loop-rank.rank _ within)
