-- The seat is still the shard's, and its rank's.
use Rattle.std.proofs.Common.{◌≡◌}
use Rattle.rl_shard.specs.Shards.{IsOf, rank_at}
use Rattle.rmalock.proofs.seat_tests.go.Given as goal

abbrev pub invariant-loop : goal.invariant-loop
invariant-loop g l = IsOf g.C.ShardCore.says l.shard l.seat × (rank_at l.seat ≡ rank_at l.fn.seat)
