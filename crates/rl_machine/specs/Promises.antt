-- What is promised of every state of a machine, and so at every moment of every run.
use Rattle.std.specs.Prelude.{◌≡◌, ◌↔◌, ◌<◌, ◌≤◌, ℕ, List, length, slice_get, slice_index, Some}
use Rattle.std.specs.List.{AllByRecursion}
use Rattle.std.specs.FinMap as map
use Rattle.rl_model.specs.declared.geom.Geom.{Geom}
use Rattle.rl_journal.specs.Legal.{IsLegal}
use Rattle.rl_journal.specs.History.{history, IsReplayedByOneThread, IsSorted}
use Rattle.rl_journal.specs.Ranks.{IsRankInOrder}
use Rattle.rl_word.specs.Shapes.{TheShape}
use Rattle.rl_word.specs.declared.locks.LockName.{LockName}
use Rattle.rl_word.specs.declared.shapes.Knobs.{Knobs}
use Rattle.rl_step.specs.Exclusion.{IsExclusive, writers, readers}
use Rattle.rl_step.specs.declared.events.Standing.TheVariants.{Writer, Reader}
use Rattle.rl_step.specs.Do.{do_got}
use Rattle.rl_word.specs.declared.acts.Atom.{Atom}
use Rattle.rl_step.specs.Answers.{steps_made}
use Rattle.rl_step.specs.Lock.{Names}
use Rattle.rl_step.specs.Queues.{QueueOf}
use Rattle.rl_step.specs.LockQueues.{queues_of}
use Rattle.rl_step.specs.QueuePromises.{KeepQueues, CountTenures}
use Rattle.rl_model.specs.declared.entry.Entry.{Entry}
use Rattle.rl_core.specs.ShardTables.{journal_at, kept_in}
use Rattle.rl_core.specs.EventRanks.{IsByRank}
use Rattle.rl_core.specs.Touches.{IsGuarded}
use Rattle.rl_site.specs.Site.{lock_base}
use Rattle.rl_core.specs.Domains.{IsCardAtom, IsLocalAtom, UsesCards, UsesLocals}
use Rattle.rl_machine.specs.Running.{ShardRun, Running}
use Rattle.rl_step.specs.Traces.{events_of}
use Rattle.rl_machine.specs.EventOrder.{AreOrdered}
use Rattle.rl_ops.specs.Asked.{BeginsAt}
use Rattle.rl_core.specs.Asks.{asked_of}
use Rattle.rl_machine.specs.Run.{calls_by, sizes_by, trace_of, kept_by, done_of, run_of, AreThere, EverAfter, IsAllClosed, IsShut}

module _ {V : Type 0} where
  -- the journal of a shard, as its words say, and the history that it and the ranks' transcripts make
  abbrev pub shard_journal : ShardRun V → List Entry
  shard_journal S = journal_at S.table S.held.words

  abbrev pub transcripts_on : ShardRun V → List (List Entry)
  transcripts_on S = kept_in S.table S.held.words 0 S.views

  abbrev pub history_on : ShardRun V → List Entry
  history_on S = history (shard_journal S) (transcripts_on S)

  -- whichever atom a rank comes to make on a shard: it is one of a card, or a local compare-and-swap, only where the lock lets it make one
  pub record KeepsDomains (S : ShardRun V) : Type 0 where
    pub cards : (k : ℕ) (x : V) (at : Atom) → slice_get S.views k ≡ Some x → S.table.core.next x ≡ Some at → IsCardAtom at → UsesCards S.table.may_make k
    pub locals : (k : ℕ) (x : V) (at : Atom) → slice_get S.views k ≡ Some x → S.table.core.next x ≡ Some at → IsLocalAtom at → UsesLocals S.table.may_make k

  -- whichever atom a rank comes to make there: if it is on count, volume or journal, it is that of a holder, a writer's where it stores, and
  -- comes with its touch, or that of a get alone that isn't at the lock; and no other atom comes with a touch
  abbrev pub KeepsGuarded : ShardRun V → Type 0
  KeepsGuarded S =
      (k : ℕ) (x : V) (at : Atom) → slice_get S.views k ≡ Some x → S.table.core.next x ≡ Some at →
      IsGuarded (lock_base S.table.site) k at (S.table.standing x) (S.table.own x).calls (S.table.core.after x (do_got at S.held.words S.held.cards)).events

  -- who stands as a writer or a reader there is who is one by what happened
  abbrev pub StandAsTold : ShardRun V → Type 0
  StandAsTold S = (k : ℕ) (x : V) → slice_get S.views k ≡ Some x → ((S.table.standing x ≡ Writer) ↔ writers (events_of S.trace) k) × ((S.table.standing x ≡ Reader) ↔ readers (events_of S.trace) k)

  -- of a shard
  pub record IsShardSound (geom : Geom) (S : ShardRun V) : Type 0 where
    -- at most one rank writes at any moment, none reads beside it, and who touches what the lock guards holds the lock
    pub exclusive : IsExclusive (events_of S.trace)
    -- and each access to what it guards is such a touch; who stands as a holder is who holds by what happened
    pub guarded : KeepsGuarded S
    pub stands : StandAsTold S
    -- each queue of the lock keeps its budget, and serves first who came first
    pub queues : KeepQueues S.table.queues (events_of S.trace)
    -- the events name queues, members and cohorts that the lock has
    pub named : AllByRecursion (Names S.table.queues S.table.cohort) (events_of S.trace)
    -- they stand in the order of their steps, and those of one step in that of their kinds
    pub ordered : AreOrdered S.trace
    -- a rank makes atoms of cards, and local compare-and-swaps, only where its lock lets it
    pub domains : KeepsDomains S
    -- journal and transcripts are legal: a batch all or nothing, each reply that of a one-thread table at its place
    pub legal : IsLegal geom (shard_journal S) (transcripts_on S)
    -- so from the empty table the calls of the history, in order, give every entry its reply, and `full` exactly where a new key
    -- finds its bucket taken and no overflow cell left
    pub replayed : IsReplayedByOneThread geom map.empty 0 (history_on S)
    pub sorted : IsSorted (history_on S)

  -- of a machine: each shard is sound, and each rank's entries on all shards are its first calls, each once, in its order
  pub record IsSound (m : Running V) : Type 0 where
    pub shards : (s : ℕ) (S : ShardRun V) → slice_get m.shards s ≡ Some S → IsShardSound m.geom S
    pub order : (k : ℕ) → k < length m.calls → IsRankInOrder m.geom k (asked_of (calls_by m k) (sizes_by m k)) (done_of m k) (kept_by m k)
    -- a rank has done no more calls than it has opened
    pub done : (k : ℕ) → k < length m.calls → done_of m k ≤ slice_index m.opened k
    -- the calls that it has done are whole blocks
    pub whole : (k : ℕ) → k < length m.calls → BeginsAt (calls_by m k) (sizes_by m k) (done_of m k)
    pub given : (k : ℕ) → k < length m.calls → slice_index m.opened k ≤ length (calls_by m k)
    -- each rank has a view on each shard, and who enters, leaves or touches is a rank that there is
    pub views : (s : ℕ) (S : ShardRun V) → slice_get m.shards s ≡ Some S → length S.views ≡ length m.calls
    pub by_ranks : (s : ℕ) (S : ShardRun V) → slice_get m.shards s ≡ Some S → AllByRecursion (IsByRank (length m.calls)) (events_of S.trace)
    -- the events are of steps that were made
    pub made : (s : ℕ) (S : ShardRun V) → slice_get m.shards s ≡ Some S → AllByRecursion (λ x. x.0 < steps_made m.steps) S.trace
    -- while no call is open on a shard each of its queues was settled and passed as often as it was had
    pub counted : (s : ℕ) (S : ShardRun V) → slice_get m.shards s ≡ Some S → IsShut S → CountTenures S.table.queues (events_of S.trace)
    -- and while no rank has an open call none is open on any shard
    pub shut : IsAllClosed m → (s : ℕ) (S : ShardRun V) → slice_get m.shards s ≡ Some S → IsShut S

  -- queues of shard s keep their promises; and while no call is open there each was settled and passed as often as it was had
  pub record KeepsQueues (queues : List QueueOf) (m : Running V) (s : ℕ) : Type 0 where
    pub keep : KeepQueues queues (events_of (trace_of m s))
    pub count : ((S : ShardRun V) → slice_get m.shards s ≡ Some S → IsShut S) → CountTenures queues (events_of (trace_of m s))

  -- so on each shard do those of the lock of this name: its members and budgets are the placement's
  abbrev pub EachKeepsQueues : LockName → TheShape → Knobs → List ℕ → Running V → Type 0
  EachKeepsQueues name shape knobs homes m = (s home : ℕ) → slice_get homes s ≡ Some home → KeepsQueues (queues_of name shape home knobs) m s

  -- and so after every run of so many ranks
  abbrev pub EverKeepsQueues : LockName → TheShape → Knobs → List ℕ → ℕ → Running V → Type 0
  EverKeepsQueues name shape knobs homes n m = EverAfter n m (EachKeepsQueues name shape knobs homes)

  -- whatever steps of its ranks follow
  abbrev pub StaysSound : Running V → Type 0
  StaysSound m = (ks : List ℕ) → AreThere (length m.calls) ks → IsSound (run_of m ks)
