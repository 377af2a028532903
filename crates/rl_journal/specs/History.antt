-- The history of a shard: all entries of its journal and transcripts, in the order in which they can have come one after the other.
use Rattle.std.specs.Prelude.{◌≡◌, ◌⊎◌, ℕ, ◌+◌, ◌<◌, ◌==◌, Bool, true, false, not, ◌&&◌, List, [], ◌∷◌, ◌++◌, count_by, filter, flat_map, length, slice_get, take, Some}
use Rattle.std.specs.List.{AllByRecursion}
use Rattle.rl_model.specs.declared.entry.Entry.{Entry}
use Rattle.rl_model.specs.declared.geom.Geom.{Geom}
use Rattle.rl_model.specs.Table.{Table, apply}
use Rattle.rl_journal.specs.Legal.{updates, table_after, blocks_joined, IsLegalBlock, IsLegal}
use Rattle.rl_journal.specs.Ranks.{IsInOrder}

-- the entry is no update, and looked at this count
abbrev pub looked_at : ℕ → Entry → Bool
looked_at p e = not (updates e) && (e.at == p)

-- the gets and holds that looked at this count, by rank, each rank's in the order of its transcript
abbrev pub reads_at : ℕ → List (List Entry) → List Entry
reads_at p transcripts = flat_map (filter (looked_at p)) transcripts

-- from place p on: the gets and holds that looked at this count, then the update at this place, and so on
abbrev pub history_from : List (List Entry) → ℕ → List Entry → List Entry
history_from transcripts p [] = reads_at p transcripts
history_from transcripts p (e ∷ es) = reads_at p transcripts ++ e ∷ history_from transcripts (p + 1) es

abbrev pub history : List Entry → List (List Entry) → List Entry
history journal transcripts = history_from transcripts 0 journal

-- a get or hold alone, on a table that n updates made
pub record IsReadAlone (geom : Geom) (t : Table) (n : ℕ) (b : List Entry) : Type 0 where
  pub entry : Entry
  pub alone : b ≡ entry ∷ []
  pub is : updates entry ≡ false
  pub place : entry.at ≡ n
  pub answered : entry.reply ≡ (apply geom entry.call t).1

-- the blocks, applied one after the other from a table that so many updates made, a get or hold being a block by itself: each
-- entry has its reply, and looked at the number of updates before it
abbrev pub IsReplayed : Geom → Table → ℕ → List (List Entry) → Type 0
IsReplayed geom t n [] = Unit {0}
IsReplayed geom t n (b ∷ bs) =
    ((r : IsReadAlone geom t n b) × IsReplayed geom (apply geom r.entry.call t).0 n bs) ⊎
    (IsLegalBlock geom t n b × IsReplayed geom (table_after geom t b) (n + length b) bs)

-- entries split wholly into such blocks
pub record IsReplayedByOneThread (geom : Geom) (t : Table) (n : ℕ) (es : List Entry) : Type 0 where
  pub blocks : List (List Entry)
  pub split : blocks_joined blocks ≡ es
  pub replayed : IsReplayed geom t n blocks

-- each entry's place is the number of updates before it
abbrev pub TellsUpdatesBefore : List Entry → Type 0
TellsUpdatesBefore es = (i : ℕ) (e : Entry) → slice_get es i ≡ Some e → e.at ≡ count_by updates (take i es)

-- of two gets or holds that looked at the same count
abbrev pub IsBeforeByRank : Entry → Entry → Type 0
IsBeforeByRank e f = (e.rank < f.rank) ⊎ ((e.rank ≡ f.rank) × (e.seq < f.seq))

-- e stands before f
abbrev pub Precedes : Entry → Entry → Type 0
Precedes e f = (e.at < f.at) ⊎ ((e.at ≡ f.at) × (updates e ≡ false) × ((updates f ≡ true) ⊎ ((updates f ≡ false) × IsBeforeByRank e f)))

-- each entry stands before all later ones
abbrev pub IsSorted : List Entry → Type 0
IsSorted [] = Unit {0}
IsSorted (e ∷ es) = AllByRecursion (Precedes e) es × IsSorted es

-- transcripts by rank, from a rank on
abbrev pub AreOwn : ℕ → List (List Entry) → Type 0
AreOwn r [] = Unit {0}
AreOwn r (t ∷ ts) = (AllByRecursion (λ e. e.rank ≡ r) t × IsInOrder t) × AreOwn (r + 1) ts

-- it is so of every legal journal with the transcripts of the ranks
abbrev pub OfLegal : (Geom → List Entry → List (List Entry) → Type 0) → Type 0
OfLegal P = (geom : Geom) (journal : List Entry) (ts : List (List Entry)) → IsLegal geom journal ts → P geom journal ts
