-- The seats have made no call before, and a step leaves them the shard's.
use Rattle.std.proofs.Common.{ap, sym, subst}
use Rattle.rl_place.specs.Places.{ThePlace}
use Rattle.rmalock.specs.Fresh.{IsFresh}
use Rattle.rmalock.proofs.seat_tests.seats_told.Goals as goal
use Rattle.rmalock.proofs.seat_tests.seats_told.Goals.{then-rank-len+in_ok-answer_sign+in_ok-push_str+in_ok-push_str-2, else-rank-len}

pub begin_all-requires-clause-fresh : goal.begin_all-requires-clause-fresh
begin_all-requires-clause-fresh g c = λ r s get.
    subst (λ z. IsFresh g.C.ShardCore.says z 0 1 c.in_ok-shard.shard s) (sym (ap (λ (p : ThePlace). p.geom) c.place.view_is)) (c.in_ok-shard.ensures.fresh r s get)

pub loop-digit-preserved : goal.loop-digit-preserved
loop-digit-preserved g c =
    elim c.if-rank-len.branch [
      | then-rank-len+in_ok-answer_sign+in_ok-push_str+in_ok-push_str-2 w ↦ rw w.seats-is w.step_of-answer.ensures.seats
      | else-rank-len w ↦ rw w.seats-is c.loop-digit.invariant
    ]
