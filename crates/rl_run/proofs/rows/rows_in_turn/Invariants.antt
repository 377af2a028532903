use Rattle.std.proofs.Common.{◌≡◌, map, vec_items, vec_len, vec_capacity, ◌+◌, ◌++◌, ◌≤◌}
use Rattle.std.specs.Vec.Iter.{into_iter_items, into_iter_len}
use Rattle.rl_run.proofs.rows.rows_in_turn.Given as goal

abbrev pub invariant-loop-row : goal.invariant-loop-row
invariant-loop-row g l =
    (map into_iter_items l.turns.items ++ map vec_items (into_iter_items l.row-iterator) ≡ map vec_items l.fn.rows.items) × (into_iter_len l.row-iterator + vec_len l.turns ≤ vec_capacity l.turns)
