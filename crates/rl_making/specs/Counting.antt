-- What a summary tells of a shard, counted where it stands in a machine.
use Rattle.std.specs.Prelude.{◌≡◌, ◌≤◌, ℕ, length, count_by, slice_get, Some}
use Rattle.rl_ops.specs.declared.ops.TheConstants.{MOST_CALLS}
use Rattle.rl_ops.specs.Ops.{total_calls}
use Rattle.rl_journal.specs.Ranks.{count_in}
use Rattle.rl_machine.specs.Running.{ShardRun, Running}
use Rattle.rl_machine.specs.Promises.{shard_journal, transcripts_on}
use Rattle.rl_making.specs.declared.counts.ShardCounts.{ShardCounts}
use Rattle.rl_making.specs.Summary.{is_get, is_settle, is_pass}

module _ {V : Type 0} where
  -- the updates of the journal, the gets of all ranks' transcripts, and the settlements and passes of the trace
  abbrev pub counts_on : ShardRun V → ShardCounts
  counts_on S =
      record {
        updates = length (shard_journal S);
        reads = count_in (λ entry. is_get entry.call) (transcripts_on S);
        settled = count_by (λ event. is_settle event.1) S.trace;
        passed = count_by (λ event. is_pass event.1) S.trace;
      }

  -- each shard has a view for each rank, and all ranks' calls are few: what is counted is small
  pub record IsSmall (m : Running V) : Type 0 where
    pub views : (s : ℕ) (S : ShardRun V) → slice_get m.shards s ≡ Some S → length S.views ≡ length m.calls
    pub few : total_calls m.calls ≤ MOST_CALLS
