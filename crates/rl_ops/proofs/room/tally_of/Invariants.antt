-- The calls so far are counted.
use Rattle.std.proofs.Common.{◌≡◌, ℕ, ◌<◌, get_or, take}
use Rattle.rl_ops.specs.Room.{calls_on, updates_on}
use Rattle.rl_ops.proofs.room.tally_of.Given as goal

abbrev pub invariant-loop-call : goal.invariant-loop-call
invariant-loop-call l = record {
  made : (shard : ℕ) → shard < 16 → get_or l.made shard 0 ≡ calls_on l.geom shard (take l.call-index l.calls);
  updates : (shard : ℕ) → shard < 16 → get_or l.updates shard 0 ≡ updates_on l.geom shard (take l.call-index l.calls);
}
