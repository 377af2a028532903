-- One tally more.
use Rattle.std.proofs.Common.{◌≡◌, ◌+◌, sym, subst, arith}
use Rattle.rl_shard.specs.Closing.{AreTotals}
use Rattle.rl_shard.proofs.Totals.{totals_more}
use Rattle.rl_shard.proofs.closing.totals.Goals as goal

pub loop-queue-preserved : goal.loop-queue-preserved
loop-queue-preserved g c =
    let seats = c.args.seats.now in
    let n = c.loop-queue.queue in (
      subst (AreTotals seats (n + 1)) (sym c.push_reserved.ensures.items)
          (totals_more seats n c.loop-queue.totals.items c.total-tally.result c.loop-queue.invariant.0 c.total-tally.ensures.settled c.total-tally.ensures.passed c.if-tally.false c.if-tally-2.false),
      (let room = c.loop-queue.invariant.1 in let same = c.push_reserved.ensures.capacity in omega arith),
    )

pub returns : goal.returns
returns g c =
    let all : c.loop-queue.queue ≡ c.args.queues = omega arith in
    subst (λ n. AreTotals c.args.seats.now n c.loop-queue.totals.items) all c.loop-queue.invariant.0
