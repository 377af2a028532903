-- One line more.
use Rattle.std.proofs.Common.{append_assoc}
use Rattle.rl_report.proofs.Lines.{next_rank}
use Rattle.rl_report.proofs.printer.put_ranks.Goals as goal

pub loop-rank-preserved : goal.loop-rank-preserved
loop-rank-preserved c =
    let next = next_rank c.args.ranks.now c.loop-rank.rank (record { done = 0; given = 0 }) c.loop-rank-test.true in
    rw (c.in_ok-put_rank.ensures, c.loop-rank.invariant, next) (simp append_assoc)
