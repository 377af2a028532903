-- The seats are still the shard's, as many as before.
use Rattle.std.proofs.Common.{◌≡◌, vec_len}
use Rattle.rl_shard.specs.Shards.{AreOf}
use Rattle.rmalock.proofs.seat_tests.go_lap.Given as goal

abbrev pub invariant-loop-rank : goal.invariant-loop-rank
invariant-loop-rank g l = AreOf g.C.ShardCore.says l.shard l.seats.items × (vec_len l.seats ≡ vec_len l.fn.seats)
