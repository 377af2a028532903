-- When the report of a run is lawful: its histories are what one thread gets, they hold every call of every rank, and the tallies of
-- its queues are within their budgets, and counted.
use Rattle.std.specs.Prelude.{◌≡◌, ℕ, zero, suc, ◌+◌, ◌<◌, List, [], ◌∷◌, length, map, filter, get_or, slice_get, Some, None}
use Rattle.std.specs.FinMap as finite
use Rattle.rl_model.specs.declared.entry.Entry.{Entry}
use Rattle.rl_step.specs.Queues.{QueueOf}
use Rattle.rl_step.specs.LockQueues.{queues_of, lock_under, spares_gets}
use Rattle.rl_journal.specs.Legal.{updates, is_of, table_after, IsLegal}
use Rattle.rl_journal.specs.History.{history}
use Rattle.rl_journal.specs.Ranks.{IsRankInOrder}
use Rattle.rl_journal.specs.Tenures.{AreTallied}
use Rattle.rl_place.specs.LockWords.{name_of}
use Rattle.rl_place.specs.Places.{ThePlace}
use Rattle.rl_place.specs.Shapes.{shape_of, knobs_of}
use Rattle.rl_ops.specs.declared.ops.Ops.{Ops}
use Rattle.rl_ops.specs.Asked.{asked_of}
use Rattle.rl_report.specs.Naming.{naming_of}
use Rattle.rl_report.specs.Reports.{TheShard, TheReport, ReportFits}

-- ---- what a shard's entries tell

-- the journal: the updates, in their order
abbrev pub journal_among : List Entry → List Entry
journal_among entries = filter updates entries

-- the transcript of a rank: its entries, in their order
abbrev pub transcript_in : List Entry → ℕ → List Entry
transcript_in entries rank = filter (is_of rank) entries

-- those of n ranks, from one rank on
abbrev pub transcripts_in : List Entry → ℕ → ℕ → List (List Entry)
transcripts_in entries rank zero = []
transcripts_in entries rank (suc n) = transcript_in entries rank ∷ transcripts_in entries (rank + 1) n

-- ---- lawful reports

-- the queues of the lock of a shard with this home
abbrev pub queues_at : ThePlace → ℕ → List QueueOf
queues_at place home = queues_of (name_of place.lock) (shape_of place) home (knobs_of place.lock)

-- and of the lock on which that one stands
abbrev pub queues_under : ThePlace → ℕ → List QueueOf
queues_under place home = queues_of (lock_under (name_of place.lock)) (shape_of place) home (knobs_of place.lock)

-- the part of a shard with this home
pub record IsLawfulShard (place : ThePlace) (home : ℕ) (s : TheShard) : Type 0 where
  -- journal and transcripts are legal, and the entries are their history
  pub legal : IsLegal place.geom (journal_among s.entries) (transcripts_in s.entries 0 (length place.paths))
  pub in_order : s.entries ≡ history (journal_among s.entries) (transcripts_in s.entries 0 (length place.paths))
  -- as many updates are told as there are
  pub told : s.updates ≡ length (journal_among s.entries)
  -- the pairs are the table after the journal, by rising key
  pub table : s.pairs ≡ finite.entries (table_after place.geom finite.empty (journal_among s.entries))
  -- the tallies of the queues keep the budgets in all, and are counted
  pub tallied : AreTallied (queues_at place home) (spares_gets (name_of place.lock)) s.entries s.queues

-- of a run of a placement's ranks over their calls
pub record IsLawful (place : ThePlace) (ops : Ops) (report : TheReport) : Type 0 where
  pub fits : ReportFits (naming_of place) report
  pub of_run : report.steps ≡ None
  pub shards : (s home : ℕ) (S : TheShard) → slice_get place.homes s ≡ Some home → slice_get report.shards s ≡ Some S → IsLawfulShard place home S
  -- each rank's entries on all shards are its calls, all of them, each once and in its order
  pub calls : (k : ℕ) → k < length ops.by_rank →
      IsRankInOrder place.geom k (asked_of (get_or ops.by_rank k []) (get_or ops.sizes k [])) (length (get_or ops.by_rank k [])) (map (λ (S : TheShard). transcript_in S.entries k) report.shards)
  pub done : report.done ≡ map (λ calls. record { done = length calls; given = length calls }) ops.by_rank
