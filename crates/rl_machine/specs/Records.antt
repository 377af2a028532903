-- What a machine tells of its shards: their words and cards, their journals and transcripts.
use Rattle.std.specs.Prelude.{ℕ, List, [], slice_get, Option, Some, None}
use Rattle.rl_model.specs.declared.entry.Entry.{Entry}
use Rattle.rl_step.specs.Do.{TheWindow}
use Rattle.rl_core.specs.Desks.{desk_entries}
use Rattle.rl_core.specs.ShardTables.{ShardTable}
use Rattle.rl_machine.specs.Running.{ShardRun, Running}
use Rattle.rl_machine.specs.Run.{on_shard}
use Rattle.rl_machine.specs.Promises.{shard_journal, transcripts_on}

module _ {V : Type 0} where
  -- the words and cards of a shard, if it is there
  abbrev pub window_of : Running V → ℕ → Option TheWindow
  window_of m s = on_shard None (λ S. Some S.held) (slice_get m.shards s)

  -- the journal of a shard, as its words say
  abbrev pub journal_at : Running V → ℕ → List Entry
  journal_at m s = on_shard [] shard_journal (slice_get m.shards s)

  -- each rank's entries on it, rank by rank
  abbrev pub transcripts_at : Running V → ℕ → List (List Entry)
  transcripts_at m s = on_shard [] transcripts_on (slice_get m.shards s)

  -- a rank's entries, as its own view has them
  abbrev pub owned_in : ShardTable V → Option V → List Entry
  owned_in T None = []
  owned_in T (Some x) = desk_entries (T.own x)

  abbrev pub owned_on : ℕ → ShardRun V → List Entry
  owned_on k S = owned_in S.table (slice_get S.views k)

  abbrev pub owned_by : Running V → ℕ → ℕ → List Entry
  owned_by m s k = on_shard [] (owned_on k) (slice_get m.shards s)
