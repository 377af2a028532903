-- Where a rank is: how it stands to the lock of the shard where it stands, and the node of the card that it is in.
use Rattle.std.specs.Prelude.{ℕ, slice_get, Option, Some, None}
use Rattle.rl_step.specs.declared.events.Standing.{Standing}
use Rattle.rl_step.specs.declared.events.Standing.TheVariants as standing
use Rattle.rl_machine.specs.Running.{ShardRun, Running}
use Rattle.rl_machine.specs.Run.{on_shard, place_of}

module _ {V : Type 0} where
  -- on a shard, for a rank that has this view there
  abbrev pub standing_at : ShardRun V → Option V → Standing
  standing_at S None = standing.Out
  standing_at S (Some x) = S.table.standing x

  abbrev pub card_at : ShardRun V → Option V → Option ℕ
  card_at S None = None
  card_at S (Some x) = S.table.card x

  abbrev pub standing_on : ℕ → ShardRun V → Standing
  standing_on k S = standing_at S (slice_get S.views k)

  abbrev pub card_on : ℕ → ShardRun V → Option ℕ
  card_on k S = card_at S (slice_get S.views k)

  -- and on the shard where it stands
  abbrev pub standing_by : Running V → ℕ → Standing
  standing_by m k = on_shard standing.Out (standing_on k) (slice_get m.shards (place_of m k))

  abbrev pub card_by : Running V → ℕ → Option ℕ
  card_by m k = on_shard None (card_on k) (slice_get m.shards (place_of m k))
