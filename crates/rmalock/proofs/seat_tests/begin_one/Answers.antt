-- The rank's seat is the shard's and can begin its call; the others stay.
use Rattle.std.proofs.Common.{◌≡◌, ◌<◌, ◌≤◌, Bool, true, false, length, slice_get, Some, ap, sym, ◌∙◌, arith, rules}
use Rattle.std.proofs.lemmas.Option.{slice_get-get_or}
use Rattle.rl_word.specs.laws.Places.{get_set_other}
use Rattle.rl_model.specs.Call.{is_update}
use Rattle.rl_site.specs.Opens.{places_needed}
use Rattle.rmalock.proofs.FreshLaws.{fresh_opens}
use Rattle.rmalock.proofs.SeatLists.{one_changed}
use Rattle.rmalock.proofs.seat_tests.begin_one.Goals as goal

-- one place is enough for a call
one_needed : (b : Bool) → places_needed b 1 ≤ 1
one_needed true = omega arith
one_needed false = omega arith

pub begin-requires-clause-seat : goal.begin-requires-clause-seat
begin-requires-clause-seat g c =
    let low : c.args.rank < length c.args.seats.now.items = search rules in
    let has : slice_get c.args.seats.now.items c.args.rank ≡ Some c.index_mut-seat.result.now = slice_get-get_or c.args.seats.now.items c.args.rank c.index_mut-seat.result.now low ∙ ap Some (sym c.index_mut-seat.ensures.value) in
    (c.requires.fresh c.index_mut-seat.result.now has).is_of

pub begin-requires-clause-closed : goal.begin-requires-clause-closed
begin-requires-clause-closed g c =
    let low : c.args.rank < length c.args.seats.now.items = search rules in
    let has : slice_get c.args.seats.now.items c.args.rank ≡ Some c.index_mut-seat.result.now = slice_get-get_or c.args.seats.now.items c.args.rank c.index_mut-seat.result.now low ∙ ap Some (sym c.index_mut-seat.ensures.value) in
    (c.requires.fresh c.index_mut-seat.result.now has).closed

pub begin-requires-clause-open : goal.begin-requires-clause-open
begin-requires-clause-open g c =
    let low : c.args.rank < length c.args.seats.now.items = search rules in
    let has : slice_get c.args.seats.now.items c.args.rank ≡ Some c.index_mut-seat.result.now = slice_get-get_or c.args.seats.now.items c.args.rank c.index_mut-seat.result.now low ∙ ap Some (sym c.index_mut-seat.ensures.value) in
    fresh_opens g.C.ShardCore.says c.args.geom 0 1 c.args.shard.now c.index_mut-seat.result.now c.args.call (c.requires.fresh c.index_mut-seat.result.now has) c.requires.here (one_needed (is_update c.args.call))

pub returns-clause-seats : goal.returns-clause-seats
returns-clause-seats g c =
    let low : c.args.rank < length c.args.seats.now.items = search rules in
    let has : slice_get c.args.seats.now.items c.args.rank ≡ Some c.index_mut-seat.result.now = slice_get-get_or c.args.seats.now.items c.args.rank c.index_mut-seat.result.now low ∙ ap Some (sym c.index_mut-seat.ensures.value) in
    one_changed g.C.ShardCore.says c.args.shard.now c.args.seats.now.items c.args.rank c.index_mut-seat.result.now c.begin.new.self c.requires.seats has c.begin.ensures.rank c.begin.ensures.seat

pub returns-clause-others : goal.returns-clause-others
returns-clause-others g c = λ r above.
    get_set_other c.args.seats.now.items c.args.rank r c.begin.new.self (λ e. absurd (omega arith))
