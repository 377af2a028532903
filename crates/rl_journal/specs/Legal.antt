-- The table that a journal leaves, and when a journal and the ranks' transcripts are legal.
use Rattle.std.specs.Prelude.{◌≡◌, ◌≢◌, ℕ, ◌+◌, ◌<◌, ◌≤◌, ◌==◌, Bool, true, false, List, [], ◌∷◌, ◌++◌, All, filter, length, take, slice_get, Some}
use Rattle.std.specs.FinMap as map
use Rattle.rl_model.specs.declared.entry.Entry.{Entry}
use Rattle.rl_model.specs.declared.geom.Geom.{Geom}
use Rattle.rl_model.specs.Call.{is_update}
use Rattle.rl_model.specs.Table.{Table, apply}
use Rattle.rl_journal.specs.Blocks.{stops, half_after, apply_block, calls_of, replies_of, IsBlock}

-- a table after some entries, block by block; of a last block that isn't whole nothing is done
abbrev pub table_after : Geom → Table → List Entry → Table
table_after geom table es = (half_after geom table [] es).0

-- the table after the first so many entries of a journal
abbrev pub map_at : Geom → List Entry → ℕ → Table
map_at geom journal p = table_after geom map.empty (take p journal)

-- the entry is an update
abbrev pub updates : Entry → Bool
updates e = is_update e.call

-- the entry is rank k's
abbrev pub is_of : ℕ → Entry → Bool
is_of k e = e.rank == k

-- an entry got the reply that its call has on the table which it met
abbrev pub IsAnswered : Geom → List Entry → Entry → Type 0
IsAnswered geom journal e = e.reply ≡ (apply geom e.call (map_at geom journal e.at)).1

-- a whole block at place n, whose calls got the replies that they have on the table t
pub record IsLegalBlock (geom : Geom) (t : Table) (n : ℕ) (b : List Entry) : Type 0 where
  pub rank : ℕ
  pub batch : ℕ
  pub seq : ℕ
  pub is : IsBlock rank batch seq n b
  pub answered : replies_of b ≡ (apply_block geom batch (calls_of b) t).1

-- another entry of the block than the one at place i has a reply that stops a batch
abbrev pub AnotherStops : List Entry → ℕ → Type 0
AnotherStops b i = (j : ℕ) × (f : Entry) × (j ≢ i) × (slice_get b j ≡ Some f) × (stops f.reply ≡ true)

-- blocks one after the other, from place n on
abbrev pub AreLegalFrom : Geom → Table → ℕ → List (List Entry) → Type 0
AreLegalFrom geom t n [] = Unit {0}
AreLegalFrom geom t n (b ∷ bs) = IsLegalBlock geom t n b × AreLegalFrom geom (table_after geom t b) (n + length b) bs

abbrev pub blocks_joined : List (List Entry) → List Entry
blocks_joined [] = []
blocks_joined (b ∷ bs) = b ++ blocks_joined bs

-- a journal splits wholly into blocks that are legal
pub record IsLegalJournal (geom : Geom) (journal : List Entry) : Type 0 where
  pub blocks : List (List Entry)
  pub split : blocks_joined blocks ≡ journal
  pub legal : AreLegalFrom geom map.empty 0 blocks

-- no block of the journal holds both the place before p and the place p
abbrev pub Begins : List Entry → ℕ → Type 0
Begins journal p = (e : Entry) → slice_get journal p ≡ Some e → e.part ≡ 0

-- an entry that is no update looked at a count that the journal had, between blocks, and was answered
abbrev pub IsLegalRead : Geom → List Entry → Entry → Type 0
IsLegalRead geom journal e = updates e ≡ false → (e.at ≤ length journal) × IsAnswered geom journal e × Begins journal e.at

-- a journal and a transcript for each rank
pub record IsLegal (geom : Geom) (journal : List Entry) (transcripts : List (List Entry)) : Type 0 where
  pub journal_is : IsLegalJournal geom journal
  pub reads_are : (k : ℕ) (t : List Entry) → slice_get transcripts k ≡ Some t → All (IsLegalRead geom journal) t
  pub ranks_are : All (λ e. e.rank < length transcripts) journal
  pub updates_are : (k : ℕ) (t : List Entry) → slice_get transcripts k ≡ Some t → filter updates t ≡ filter (is_of k) journal

-- it is so of every legal block that a table is done by
abbrev pub OfLegalBlock : (Geom → Table → List Entry → Type 0) → Type 0
OfLegalBlock P = (geom : Geom) (t : Table) (n : ℕ) (b : List Entry) → IsLegalBlock geom t n b → P geom t b
