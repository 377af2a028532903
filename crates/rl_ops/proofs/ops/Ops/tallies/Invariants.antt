-- The ranks so far are counted.
use Rattle.std.proofs.Common.{◌≡◌, ℕ, ◌<◌, get_or, map, take}
use Rattle.rl_ops.specs.Room.{calls_on, updates_on}
use Rattle.rl_ops.proofs.ops.Ops.tallies.Given as goal

abbrev pub invariant-loop-calls : goal.invariant-loop-calls
invariant-loop-calls l = record {
  calls : (shard : ℕ) → shard < 16 → map (λ tally. get_or tally.calls shard 0) l.tallies.items ≡ map (calls_on l.geom shard) (map (λ v. v.items) (take l.calls-index l.calls-items));
  updates : (shard : ℕ) → shard < 16 → map (λ tally. get_or tally.updates shard 0) l.tallies.items ≡ map (updates_on l.geom shard) (map (λ v. v.items) (take l.calls-index l.calls-items));
}
