use Rattle.std.proofs.Common.{◌≡◌, map, vec_items, vec_len, vec_capacity, ◌+◌, ◌++◌, ◌≤◌}
use Rattle.std.specs.Vec.Iter.{into_iter_items, into_iter_len}
use Rattle.rl_run.specs.Callers.{seats_of}
use Rattle.rl_run.proofs.closing.rows_of.Given as goal

abbrev pub invariant-loop-caller : goal.invariant-loop-caller
invariant-loop-caller g l =
    (map vec_items l.rows.items ++ map seats_of (into_iter_items l.caller-iterator) ≡ map seats_of l.fn.callers.items) × (into_iter_len l.caller-iterator + vec_len l.rows ≤ vec_capacity l.rows)
