-- No block of the seats so far is open.
use Rattle.std.proofs.Common.{◌≡◌, ◌<◌, ℕ, slice_get, Some}
use Rattle.rl_shard.specs.Shards.{IsClosed}
use Rattle.rmalock.proofs.seat_tests.all_closed.Given as goal

abbrev pub invariant-loop-seat : goal.invariant-loop-seat
invariant-loop-seat g l = (r : ℕ) (s : _) → r < l.seat-index → slice_get l.seats r ≡ Some s → IsClosed g.C.ShardCore.says l.shard s
