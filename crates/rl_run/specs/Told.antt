-- What closed shards tell, as plain lists, and the report of it.
use Rattle.std.specs.Prelude.{◌≡◌, ◌<◌, ◌^◌, ℕ, List, [], All, length, map, get_or, slice_get, Some, None}
use Rattle.std.specs.FinMap as finite
use Rattle.rl_model.specs.declared.entry.Entry.{Entry}
use Rattle.rl_step.specs.declared.tallies.Tally.{Tally}
use Rattle.rl_step.specs.LockQueues.{spares_gets}
use Rattle.rl_journal.specs.Legal.{IsLegal, table_after}
use Rattle.rl_journal.specs.History.{history, AreOwn}
use Rattle.rl_journal.specs.Ranks.{IsRankInOrder}
use Rattle.rl_journal.specs.Tenures.{AreTallied}
use Rattle.rl_place.specs.LockWords.{name_of}
use Rattle.rl_place.specs.Places.{ThePlace}
use Rattle.rl_ops.specs.declared.ops.Ops.{Ops}
use Rattle.rl_ops.specs.Asked.{asked_of}
use Rattle.rl_core.specs.RankGood.{entries_in}
use Rattle.rl_report.specs.declared.report.Done.{Done}
use Rattle.rl_report.specs.Reports.{TheShard, TheReport, ReplyFits, TallyFits}
use Rattle.rl_report.specs.Lawful.{queues_at}

-- what a closed shard tells
pub record ToldShard : Type 0 where
  pub journal : List Entry
  pub transcripts : List (List Entry)
  pub pairs : List (ℕ × ℕ)
  pub queues : List Tally

-- the entries of a rank
abbrev pub told_of : ℕ → ToldShard → List Entry
told_of k e = get_or e.transcripts k []

-- its part of the report
abbrev pub part_of : ToldShard → TheShard
part_of e = record { updates = length e.journal; entries = history e.journal e.transcripts; queues = e.queues; pairs = e.pairs; events = [] }

-- what each rank has done, once it has done all its calls
abbrev pub all_done : Ops → List Done
all_done ops = map (λ calls. record { done = length calls; given = length calls }) ops.by_rank

abbrev pub report_of : Ops → List ToldShard → TheReport
report_of ops es = record { shards = map part_of es; done = all_done ops; steps = None }

-- the numbers fit the machine's
pub record ToldNumbersFit (e : ToldShard) : Type 0 where
  pub replies : All (λ f. ReplyFits f.reply) (history e.journal e.transcripts)
  pub tallies : All TallyFits e.queues
  pub pairs : All (λ p. (p.0 < 2 ^ 64) × (p.1 < 2 ^ 64)) e.pairs

-- what is known of a closed shard with this home: journal and transcripts are legal, the pairs are the table after the journal, and
-- the tallies of the queues keep the budgets in all, and are counted
pub record IsClosedShard (place : ThePlace) (home : ℕ) (e : ToldShard) : Type 0 where
  pub ranks : length e.transcripts ≡ length place.paths
  pub legal : IsLegal place.geom e.journal e.transcripts
  pub own : AreOwn 0 e.transcripts
  pub pairs_are : e.pairs ≡ finite.entries (table_after place.geom finite.empty e.journal)
  pub tallied : AreTallied (queues_at place home) (spares_gets (name_of place.lock)) (history e.journal e.transcripts) e.queues

-- a rank has done all its calls, each once and in its order
pub record IsRankDone (place : ThePlace) (ops : Ops) (k : ℕ) (es : List ToldShard) : Type 0 where
  pub order : IsRankInOrder place.geom k (asked_of (get_or ops.by_rank k []) (get_or ops.sizes k [])) (length (get_or ops.by_rank k [])) (map (told_of k) es)
  pub total : entries_in (map (told_of k) es) ≡ length (get_or ops.by_rank k [])

-- all shards of a run that has ended
pub record AreClosedShards (place : ThePlace) (ops : Ops) (es : List ToldShard) : Type 0 where
  pub all : length es ≡ place.geom.shards
  pub shards : (s home : ℕ) (e : ToldShard) → slice_get place.homes s ≡ Some home → slice_get es s ≡ Some e → IsClosedShard place home e
  pub ranks : (k : ℕ) → k < length ops.by_rank → IsRankDone place ops k es
