use Rattle.std.proofs.Common.{◌≡◌, ◌+◌, ◌≤◌, ◌++◌, map, vec_len, vec_capacity}
use Rattle.std.specs.Vec.Iter.{into_iter_items, into_iter_len}
use Rattle.rl_window.specs.Seats.{IsClosing, view_of}
use Rattle.rl_window.proofs.closing.join_all.Given as goal

abbrev pub invariant-loop-seat : goal.invariant-loop-seat
invariant-loop-seat g l =
    (l.root.table_id ≡ l.fn.table.table_id) × (into_iter_len l.seat-iterator + vec_len l.views ≤ vec_capacity l.views) × IsClosing g.C.Core.rule l.fn.table.key l.fn.table.table_id l.root (into_iter_items l.seat-iterator) l.views.items
    × (l.views.items ++ map view_of (into_iter_items l.seat-iterator) ≡ l.fn.views.items ++ map view_of l.fn.seats.items)
