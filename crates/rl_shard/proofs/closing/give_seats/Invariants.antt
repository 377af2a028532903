-- The seats so far stand behind those that were there.
use Rattle.std.proofs.Common.{◌≡◌, map, vec_len, vec_capacity, ◌+◌, ◌++◌, ◌≤◌}
use Rattle.std.specs.Vec.Iter.{into_iter_items, into_iter_len}
use Rattle.rl_shard.specs.Closing.{seated}
use Rattle.rl_shard.proofs.closing.give_seats.Given as goal

abbrev pub invariant-loop-seat : goal.invariant-loop-seat
invariant-loop-seat g l =
    (l.seats.items ++ map seated (into_iter_items l.seat-iterator) ≡ l.fn.seats.items ++ map seated l.fn.inner.items) × (into_iter_len l.seat-iterator + vec_len l.seats ≤ vec_capacity l.seats)
