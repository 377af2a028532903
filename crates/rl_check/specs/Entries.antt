-- What is asked of an entry of a shard's history.
use Rattle.std.specs.Prelude.{◌≡◌, ◌⊎◌, ℕ, zero, suc, ◌+◌, ◌<◌, ◌≤◌, true, false, List, count_by, drop, length, slice_get, take, Option, Some, None}
use Rattle.std.specs.FinMap as finite
use Rattle.rl_model.specs.declared.entry.Entry.{Entry}
use Rattle.rl_model.specs.declared.geom.Geom.{Geom}
use Rattle.rl_model.specs.Call.{shard_of}
use Rattle.rl_model.specs.Table.{Table, apply}
use Rattle.rl_journal.specs.Blocks.{apply_batch, calls_of, is_last}
use Rattle.rl_journal.specs.Legal.{updates, table_after}
use Rattle.rl_journal.specs.History.{IsBeforeByRank}
use Rattle.rl_report.specs.Lawful.{journal_among}

-- ---- what stands before an entry

-- the entry before a place
abbrev pub before : List Entry → ℕ → Option Entry
before entries zero = None
before entries (suc p) = slice_get entries p

-- how many updates do
abbrev pub updates_before : List Entry → ℕ → ℕ
updates_before entries p = count_by updates (take p entries)

-- the table that they make, block by block
abbrev pub table_before : Geom → List Entry → ℕ → Table
table_before geom entries p = table_after geom finite.empty (journal_among (take p entries))

-- ---- the order

-- e stands before f: by place, then gets and holds before updates, then by rank and number. Of two updates at one place it says
-- which comes first too: that they are at one place is another fault.
abbrev pub StandsBefore : Entry → Entry → Type 0
StandsBefore e f =
    (e.at < f.at) ⊎ ((e.at ≡ f.at) × (((updates e ≡ false) × (updates f ≡ true)) ⊎ ((updates e ≡ updates f) × IsBeforeByRank e f)))

-- ---- batches

-- e goes on with the batch of d: it is an update of the same rank and batch, with number and part one more
pub record GoesOnInBatch (d e : Entry) : Type 0 where
  pub is_update : updates e ≡ true
  pub rank_is : e.rank ≡ d.rank
  pub batch_is : e.batch ≡ d.batch
  pub seq_is : e.seq ≡ d.seq + 1
  pub part_is : e.part ≡ d.part + 1

-- a call alone, or the first update of a batch
abbrev pub IsFirstOfBlock : Entry → Type 0
IsFirstOfBlock e = (e.batch ≡ 0) ⊎ ((updates e ≡ true) × (e.part ≡ 0))

-- e may stand behind another entry: where that one has begun a batch and isn't its last, it goes on with it; else it begins a block
abbrev pub MayFollow : Option Entry → Entry → Type 0
MayFollow None e = IsFirstOfBlock e
MayFollow (Some d) e = (is_last d ≡ true → IsFirstOfBlock e) × (is_last d ≡ false → GoesOnInBatch d e)

-- the n entries from place i on are a whole batch
pub record IsWholeBatch (entries : List Entry) (i n : ℕ) : Type 0 where
  pub first : Entry
  pub begins : slice_get entries i ≡ Some first
  pub is_update : updates first ≡ true
  pub batch_is : first.batch ≡ n
  pub part_is : first.part ≡ 0
  pub some : 1 ≤ n
  pub there : i + n ≤ length entries
  pub goes_on : (j : ℕ) (d e : Entry) → i ≤ j → j + 1 < i + n → slice_get entries j ≡ Some d → slice_get entries (j + 1) ≡ Some e → GoesOnInBatch d e

-- ---- the tests, at place p

module _ (entries : List Entry) (p : ℕ) where
  -- the call belongs to this shard
  abbrev pub IsOfShard : Geom → ℕ → Type 0
  IsOfShard geom shard = (e : Entry) → slice_get entries p ≡ Some e → shard_of geom e.call ≡ shard

  -- it stands after the entry before it
  abbrev pub EntryIsInOrder : Type 0
  EntryIsInOrder = (d e : Entry) → before entries p ≡ Some d → slice_get entries p ≡ Some e → StandsBefore d e

  -- it goes on with a batch that is begun, and begins a block where none is
  abbrev pub IsInBatch : Type 0
  IsInBatch = (e : Entry) → slice_get entries p ≡ Some e → MayFollow (before entries p) e

  -- its place is the number of updates before it
  abbrev pub IsAtPlace : Type 0
  IsAtPlace = (e : Entry) → slice_get entries p ≡ Some e → e.at ≡ updates_before entries p

  -- Its reply is what one thread gets on the table before it. In a batch it is the one that the batch gets there, on the table before the
  -- batch, where the batch is whole; of a batch that isn't nothing is asked here.
  pub record EntryIsAnswered (geom : Geom) (e : Entry) : Type 0 where
    pub alone : e.batch ≡ 0 → e.reply ≡ (apply geom e.call (table_before geom entries p)).1
    pub in_batch : (i : ℕ) → p ≡ i + e.part → e.part < e.batch → IsWholeBatch entries i e.batch →
        slice_get (apply_batch geom (calls_of (take e.batch (drop i entries))) (table_before geom entries i)).1 e.part ≡ Some e.reply

  abbrev pub HasReply : Geom → Type 0
  HasReply geom = (e : Entry) → slice_get entries p ≡ Some e → EntryIsAnswered geom e
