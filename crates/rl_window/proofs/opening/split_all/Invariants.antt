use Rattle.std.proofs.Common.{◌≡◌, ◌+◌, ◌<◌, ◌^◌, ◌≤◌, vec_len, vec_capacity}
use Rattle.std.specs.Vec.Iter.{into_iter_items, into_iter_len}
use Rattle.rl_window.specs.Seats.{IsOpening}
use Rattle.rl_window.proofs.opening.split_all.Given as goal

abbrev pub invariant-loop-view : goal.invariant-loop-view
invariant-loop-view g l =
    (l.root.table_id ≡ l.fn.table.table_id) × (into_iter_len l.view-iterator + vec_len l.seats ≤ vec_capacity l.seats) × (into_iter_len l.view-iterator + vec_len l.seats < 2 ^ 32)
    × IsOpening l.fn.table.key l.fn.table.table_id l.root (into_iter_items l.view-iterator) l.seats.items
