-- The seats so far stand behind those that were there. Those that are left are turned round: the last of them is the next one.
use Rattle.std.proofs.Common.{◌≡◌, map, reverse, vec_len, vec_capacity, ◌+◌, ◌++◌, ◌≤◌}
use Rattle.rl_shard.specs.Closing.{inner_of}
use Rattle.rl_shard.proofs.closing.take_seats.Given as goal

abbrev pub invariant-loop-seat : goal.invariant-loop-seat
invariant-loop-seat g l =
    (l.inner.items ++ map inner_of (reverse l.seats.items) ≡ l.fn.inner.items ++ map inner_of l.fn.seats.items) × (vec_len l.seats + vec_len l.inner ≤ vec_capacity l.inner) × (vec_capacity l.seats ≡ vec_capacity l.fn.seats)

abbrev pub decreases-loop-seat : goal.decreases-loop-seat
decreases-loop-seat g l = vec_len l.seats
