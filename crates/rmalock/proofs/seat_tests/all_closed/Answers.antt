-- One seat more.
use Rattle.std.proofs.Common.{◌≡◌, ◌≢◌, false, ◌<◌, length, slice_get, Some, ap, sym, subst, ◌∙◌, ⊎_elim, arith, rules}
use Rattle.std.proofs.lemmas.Option.{slice_get-get_or, slice_get_within}
use Rattle.rl_word.specs.laws.Places.{same_or_not, one_at}
use Rattle.rl_shard.specs.Shards.{IsClosed}
use Rattle.rmalock.proofs.seat_tests.all_closed.Goals as goal

pub is_open-requires : goal.is_open-requires
is_open-requires g c =
    let low : c.loop-seat.seat-index < length c.args.seats.now = omega arith in
    let get : slice_get c.args.seats.now c.loop-seat.seat-index ≡ Some c.seat-item.result = slice_get-get_or c.args.seats.now c.loop-seat.seat-index c.seat-item.result low ∙ ap Some (sym c.seat-item.is) in
    (c.requires c.loop-seat.seat-index c.seat-item.result get).1

pub loop-seat-preserved : goal.loop-seat-preserved
loop-seat-preserved g c = λ r s h has.
    let seats = c.args.seats.now in
    let i = c.loop-seat.seat-index in
    let seat = c.seat-item.result in
    let low : i < length seats = omega arith in
    let get : slice_get seats i ≡ Some seat = slice_get-get_or seats i seat low ∙ ap Some (sym c.seat-item.is) in
    let off : c.is_open.result ≡ false = search rules in
    let closed : IsClosed g.C.ShardCore.says c.args.shard.now seat = sym c.is_open.ensures ∙ off in
    ⊎_elim
    (λ (e : r ≡ i). subst (IsClosed g.C.ShardCore.says c.args.shard.now) (one_at seats i seat s get (subst (λ k. slice_get seats k ≡ Some s) e has)) closed)
    (λ (ne : r ≢ i). let below : r < i = grind arith in c.loop-seat.invariant r s below has)
    (same_or_not r i)

pub returns : goal.returns
returns g c = λ yes r s has.
    let there : r < length c.args.seats.now = slice_get_within c.args.seats.now r s has in
    let below : r < c.loop-seat.seat-index = omega arith in
    c.loop-seat.invariant r s below has
