use Rattle.std.proofs.Common.{◌≡◌, map, vec_len, vec_capacity, ◌+◌, ◌++◌, ◌≤◌}
use Rattle.std.specs.Vec.Iter.{into_iter_items, into_iter_len}
use Rattle.rl_run.specs.Rows.{heads, tails}
use Rattle.rl_run.proofs.rows.next_seats.Given as goal

abbrev pub invariant-loop-row : goal.invariant-loop-row
invariant-loop-row g l =
    (l.column.items ++ heads (map into_iter_items (into_iter_items l.row-iterator)) ≡ heads (map into_iter_items l.fn.rows.items))
    × (map into_iter_items l.rest.items ++ tails (map into_iter_items (into_iter_items l.row-iterator)) ≡ tails (map into_iter_items l.fn.rows.items))
    × (into_iter_len l.row-iterator + vec_len l.column ≤ vec_capacity l.column) × (into_iter_len l.row-iterator + vec_len l.rest ≤ vec_capacity l.rest)
