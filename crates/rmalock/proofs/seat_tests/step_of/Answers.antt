-- The rank's seat is the shard's.
use Rattle.std.proofs.Common.{◌≡◌, ◌<◌, length, slice_get, Some, ap, sym, ◌∙◌, rules}
use Rattle.std.proofs.lemmas.Option.{slice_get-get_or}
use Rattle.rmalock.proofs.SeatLists.{one_changed}
use Rattle.rmalock.proofs.seat_tests.step_of.Goals as goal

pub step-requires : goal.step-requires
step-requires g c =
    let low : c.args.rank < length c.args.seats.now.items = search rules in
    let has : slice_get c.args.seats.now.items c.args.rank ≡ Some c.index_mut-seat.result.now = slice_get-get_or c.args.seats.now.items c.args.rank c.index_mut-seat.result.now low ∙ ap Some (sym c.index_mut-seat.ensures.value) in
    record { seat = (c.requires.seats c.args.rank c.index_mut-seat.result.now has).1 }

pub returns-clause-seats : goal.returns-clause-seats
returns-clause-seats g c =
    let low : c.args.rank < length c.args.seats.now.items = search rules in
    let has : slice_get c.args.seats.now.items c.args.rank ≡ Some c.index_mut-seat.result.now = slice_get-get_or c.args.seats.now.items c.args.rank c.index_mut-seat.result.now low ∙ ap Some (sym c.index_mut-seat.ensures.value) in
    one_changed g.C.ShardCore.says c.args.shard.now c.args.seats.now.items c.args.rank c.index_mut-seat.result.now c.step.new.self c.requires.seats has c.step.ensures.step.rank c.step.ensures.step.seat
