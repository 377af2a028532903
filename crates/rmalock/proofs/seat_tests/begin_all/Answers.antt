-- The next rank's seat has made no call; and where it begins one, the others stay.
use Rattle.std.proofs.Common.{refl, sym, ◌∙◌, arith}
use Rattle.rmalock.proofs.seat_tests.begin_all.Goals as goal
use Rattle.rmalock.proofs.seat_tests.begin_all.Goals.{in-Some, in_default}

pub loop-rank-init : goal.loop-rank-init
loop-rank-init g c = (c.requires.seats, refl, λ r s low get. c.requires.fresh r s get)

pub begin_one-requires-clause-fresh : goal.begin_one-requires-clause-fresh
begin_one-requires-clause-fresh g c = λ s get. c.loop-rank.invariant.2 c.loop-rank.rank s (omega arith) get

pub loop-rank-preserved : goal.loop-rank-preserved
loop-rank-preserved g c =
    elim c.match-first_call.branch [
      | in-Some w ↦
          rw w.seats-is (
            w.begin_one.ensures.seats,
            w.begin_one.ensures.long ∙ c.loop-rank.invariant.1,
            λ r s low get. c.loop-rank.invariant.2 r s (omega arith) (sym (w.begin_one.ensures.others r (omega arith)) ∙ get),
          )
      | in_default w ↦ rw w.seats-is (c.loop-rank.invariant.0, c.loop-rank.invariant.1, λ r s low get. c.loop-rank.invariant.2 r s (omega arith) get)
    ]
