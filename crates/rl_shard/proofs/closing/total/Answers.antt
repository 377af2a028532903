-- One seat more.
use Rattle.std.proofs.Common.{◌≡◌, ◌<◌, length, slice_get, Some, ap, sym, ◌∙◌, arith}
use Rattle.std.proofs.lemmas.Option.{slice_get-get_or}
use Rattle.rl_step.specs.declared.tallies.Tally.{Tally}
use Rattle.rl_shard.proofs.Totals.{settled_more, passed_more}
use Rattle.rl_shard.proofs.closing.total.Goals as goal

pub loop-seat-preserved : goal.loop-seat-preserved
loop-seat-preserved g c =
    let seats = c.args.seats.now in
    let i = c.loop-seat.seat-index in
    let seat = c.seat-item.result in
    let low : i < length seats = omega arith in
    let get : slice_get seats i ≡ Some seat = slice_get-get_or seats i seat low ∙ ap Some (sym c.seat-item.is) in
    let more = settled_more seats c.args.queue i seat get in
    let more_passed = passed_more seats c.args.queue i seat get in
    let settled = ap (λ (t : Tally). t.settled) c.tally-tally.ensures in
    let passed = ap (λ (t : Tally). t.passed) c.tally-tally.ensures in
    let so_far = c.loop-seat.invariant.0 in
    let passed_so_far = c.loop-seat.invariant.1 in
    let sum = c.saturating_add-settled.ensures in
    let sum_passed = c.saturating_add-passed.ensures in
    (omega arith, omega arith)
