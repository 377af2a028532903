use Rattle.std.proofs.Common.{◌≡◌, map, vec_items, vec_len, vec_capacity, ◌+◌, ◌++◌, ◌≤◌}
use Rattle.std.specs.Vec.Iter.{into_iter_items, into_iter_len}
use Rattle.rl_run.specs.Rows.{with_column}
use Rattle.rl_run.proofs.rows.deal_seats.Given as goal

abbrev pub invariant-loop-row : goal.invariant-loop-row
invariant-loop-row g l =
    (map vec_items l.dealt.items ++ with_column (map vec_items (into_iter_items l.row-iterator)) (into_iter_items l.seats) ≡ with_column (map vec_items l.fn.rows.items) l.fn.column.items)
    × (into_iter_len l.seats ≡ into_iter_len l.row-iterator) × (into_iter_len l.row-iterator + vec_len l.dealt ≤ vec_capacity l.dealt)
