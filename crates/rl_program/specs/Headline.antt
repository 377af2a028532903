-- The headline of a replay: what is true of the texts that are replayed, of the run, and of the report that is written.
use Rattle.std.specs.Prelude.{◌≡◌, ◌<◌, ℕ, List, [], length, get_or, slice_get, Some}
use Rattle.std.specs.FinMap as map
use Rattle.rl_step.specs.Exclusion.{IsExclusive}
use Rattle.rl_journal.specs.Legal.{IsLegal}
use Rattle.rl_journal.specs.History.{IsReplayedByOneThread, IsSorted}
use Rattle.rl_journal.specs.Ranks.{IsRankInOrder}
use Rattle.rl_place.specs.LockWords.{name_of}
use Rattle.rl_place.specs.Places.{ThePlace, IsProper}
use Rattle.rl_place.specs.Shapes.{shape_of, knobs_of}
use Rattle.rl_place.specs.Spelling.{place_spelling}
use Rattle.rl_ops.specs.declared.ops.Ops.{Ops}
use Rattle.rl_ops.specs.declared.schedule.Schedule.{Schedule}
use Rattle.rl_ops.specs.Ops.{SpellsOps}
use Rattle.rl_ops.specs.Schedule.{ScheduleFits, schedule_spelling}
use Rattle.rl_inputs.specs.Files.{Texts}
use Rattle.rl_report.specs.Naming.{naming_of}
use Rattle.rl_report.specs.Spelling.{report_spelling}
use Rattle.rl_check.specs.LawfulReplays.{IsLawfulReplay}
use Rattle.rl_machine.specs.Running.{ShardRun, Running}
use Rattle.rl_step.specs.Traces.{events_of}
use Rattle.rl_core.specs.Asks.{asked_of}
use Rattle.rl_machine.specs.Run.{ranks_of_turns, done_of, kept_by}
use Rattle.rl_machine.specs.RunTransitions.{EachSays}
use Rattle.rl_machine.specs.Promises.{shard_journal, transcripts_on, history_on, EachKeepsQueues, KeepsGuarded}
use Rattle.rl_machine.specs.Changes.{OnlyWritersChange}
use Rattle.rl_locks.specs.Kinds.{Defined, Promised, lock_kind_of}
use Rattle.rl_locks.specs.OnShards.{OfShard}
use Rattle.rl_locks.specs.Runs.{start_with, machine_after}
use Rattle.rl_program.specs.Replay.{report_of_replay}

-- of each shard of a machine
abbrev pub OnShards : {V : Type 0} → Running V → (ShardRun V → Type 0) → Type 0
OnShards m P = (s : ℕ) (S : ShardRun _) → slice_get m.shards s ≡ Some S → P S

module _ {V : Type 0} (defined : Defined V) (promised : Promised) (way : OfShard V) (place : ThePlace) (ops : Ops) (schedule : Schedule) where
  abbrev m : Running V
  m = machine_after defined place ops schedule.turns

  -- What is promised of the run of a schedule over a placement and calls, for the kind of lock that is defined so, and promises this
  -- beyond every lock, and this of its way of doing blocks. Here m is the machine at the end of the run; since all of it holds of every
  -- schedule, it holds at every moment.
  pub record IsKept : Type 0 where
    -- on no shard is a writer ever beside another holder; and whose event is a touch holds the lock, as a writer where the touch writes
    pub exclusive : OnShards m (λ S. IsExclusive (events_of S.trace))
    -- these touches are the accesses to count, volume and journal: whichever atom a rank comes to make there, as the lock lets it, is told as one;
    -- but for the loads of a get alone that isn't at the lock (under `seq`). No other atom is told so
    pub guarded : OnShards m KeepsGuarded
    -- and whichever step comes next: where it changes count, volume or journal of a shard, its rank is a writer there, and its touch is put
    -- behind the trace
    pub changes : OnlyWritersChange m
    -- no queue with a budget passes its lock more often than that between two settlements, nor, in all, more often than that for each
    -- settlement; each queue serves first who came first; and while no call is open there each was settled and passed as often as it was had
    pub queues : EachKeepsQueues (name_of place.lock) (shape_of place) (knobs_of place.lock) place.homes m
    -- and beyond that, on each shard: under ALock, `seq` and `combine` a cohort that has announced itself is overtaken at most so often, by the
    -- events; under RMA-RW, while no step lowers the arrive word of a group at most so many of its readers enter, by the lock's words before
    -- and after each step and by the events; under the other locks nothing
    pub further : EachSays promised (shape_of place) (knobs_of place.lock) place.homes (start_with defined place ops) (ranks_of_turns schedule.turns)
    -- and what its way of doing blocks promises of each shard's words and of its ranks' views: under the five locks that a rank which reads for
    -- its block holds the lock, and what it has found still stands; under `seq` how a get alone goes without the lock; and under `combine`
    -- that each posted call is done once at most, and by a writer
    pub ways : OnShards m (λ S. way S.table S.held S.views)
    -- one thread that makes the calls of a shard's history in order, from the empty table, gets the history's replies, `full` exactly
    -- where a new key finds its bucket taken and no overflow cell left; and each entry looked at the number of updates before it
    pub replies : OnShards m (λ S. IsReplayedByOneThread place.geom map.empty 0 (history_on S))
    -- journal and transcripts: a batch is done as a whole or undone as a whole, nothing stands within it, and each rank's updates are
    -- those that the journal has of it
    pub legal : OnShards m (λ S. IsLegal place.geom (shard_journal S) (transcripts_on S))
    -- the history is in order: by place, gets and holds before the update, and of these by rank and number
    pub sorted : OnShards m (λ S. IsSorted (history_on S))
    -- each rank's entries on all shards are its first n calls, each once and in its order, and n is told as what it has done
    pub calls : (k : ℕ) → k < length ops.by_rank → IsRankInOrder place.geom k (asked_of (get_or ops.by_rank k []) (get_or ops.sizes k [])) (done_of m k) (kept_by m k)

-- of the kind of the placement's lock
abbrev pub KeepsPromises : ThePlace → Ops → Schedule → Type 0
KeepsPromises place ops schedule = IsKept (lock_kind_of place.lock).defined (lock_kind_of place.lock).promised (lock_kind_of place.lock).ways place ops schedule

-- These texts are replayed: they spell a placement, calls and a schedule, and this text is the report of their run, which keeps its
-- promises.
pub record IsReplay (texts : Texts) (text : List ℕ) : Type 0 where
  pub place : ThePlace
  pub ops : Ops
  pub schedule : Schedule
  -- the placement is proper, and the schedule is of its ranks
  pub proper : IsProper place
  pub fits : ScheduleFits (length place.paths) schedule
  pub place_spelled : texts.place ≡ place_spelling place
  pub calls_spelled : SpellsOps (length place.paths) place.geom.shards ops texts.calls
  pub schedule_spelled : texts.schedule ≡ schedule_spelling schedule
  pub bytes : text ≡ report_spelling (naming_of place) (report_of_replay place ops schedule)
  pub kept : KeepsPromises place ops schedule
  -- the report keeps its limits; its entries are the history of a legal journal and legal transcripts, and hold so many of each rank's calls
  -- as are told as done, whole blocks, each call once and in its order; its tallies count its events; and by these no writer was ever
  -- beside another holder, and each queue with a budget kept it
  pub lawful : IsLawfulReplay place ops (report_of_replay place ops schedule)
