-- The seats are the shard's, and those of the ranks to come have made no call.
use Rattle.std.proofs.Common.{◌≡◌, ◌≤◌, ℕ, slice_get, Some, vec_len}
use Rattle.rl_shard.specs.Shards.{AreOf}
use Rattle.rmalock.specs.Fresh.{IsFresh}
use Rattle.rmalock.proofs.seat_tests.begin_all.Given as goal

abbrev pub invariant-loop-rank : goal.invariant-loop-rank
invariant-loop-rank g l =
    AreOf g.C.ShardCore.says l.shard l.seats.items × (vec_len l.seats ≡ vec_len l.fn.seats)
    × ((r : ℕ) (s : _) → l.rank ≤ r → slice_get l.seats.items r ≡ Some s → IsFresh g.C.ShardCore.says l.geom 0 1 l.shard s)
