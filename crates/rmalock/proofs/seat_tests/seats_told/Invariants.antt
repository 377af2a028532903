-- The seats are still the shard's.
use Rattle.rl_shard.specs.Shards.{AreOf}
use Rattle.rmalock.proofs.seat_tests.seats_told.Given as goal

abbrev pub invariant-loop-digit : goal.invariant-loop-digit
invariant-loop-digit g l = AreOf g.C.ShardCore.says l.shard l.seats.items
