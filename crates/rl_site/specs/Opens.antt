-- A block that may be opened, a rank's own entries, and the words before the lock's at the start: the same for every way of working.
use Rattle.std.specs.Prelude.{◌≡◌, ℕ, ◌+◌, ◌*◌, ◌^◌, ◌<◌, ◌≤◌, Bool, true, false, List, [], ◌∷◌, ◌++◌, All, length, replicate, count_by, slice_index}
use Rattle.rl_model.specs.declared.call.Call.{Call}
use Rattle.rl_model.specs.declared.call.Call.TheVariants as call
use Rattle.rl_model.specs.declared.entry.Entry.{Entry}
use Rattle.rl_model.specs.Call.{shard_of}
use Rattle.rl_model.specs.Asked.{IsAsked, asks_update}
use Rattle.rl_volume.specs.Volume.{start_words}
use Rattle.rl_journal.specs.Legal.{updates}
use Rattle.rl_journal.specs.Ranks.{IsInOrder, IsOwn}
use Rattle.rl_site.specs.Site.{Site, places}
use Rattle.rl_site.specs.Transcript.{TheTranscript}

-- one get, in no batch
abbrev pub IsGetAlone : List Call → Type 0
IsGetAlone calls = (key : ℕ) × (calls ≡ call.Get key ∷ [])

-- the places that so many calls need in the journal
abbrev pub places_needed : Bool → ℕ → ℕ
places_needed true n = n
places_needed false n = 0

-- the open block is one of the shard, its numbers are greater than those of the rank's entries, and there is room for it
pub record IsOpen (site : Site) (rank : ℕ) (calls : List Call) (seq : ℕ) (transcript : TheTranscript) : Type 0 where
  pub is_block : IsAsked calls
  pub of_shard : All (λ c. shard_of site.geom c ≡ site.shard) calls
  pub fresh : All (λ e. e.seq < seq) transcript.items
  pub small : seq + length calls ≤ 2 ^ 32
  pub room : length transcript.items + length calls ≤ transcript.room
  pub place : count_by updates transcript.items + places_needed (asks_update calls) (length calls) ≤ slice_index site.rooms rank

-- a rank's transcript: its own entries, in order, and no more updates than it has room for
pub record IsOwnTranscript (site : Site) (rank : ℕ) (t : List Entry) : Type 0 where
  pub own : All (IsOwn site.shard rank) t
  pub in_order : IsInOrder t
  pub place : count_by updates t ≤ slice_index site.rooms rank

-- the words before the lock's at the start
abbrev pub opening_words : Site → List ℕ
opening_words site = 1 ∷ 0 ∷ start_words site.geom ++ replicate (6 * places site) 0

-- the entries are a rank's on a shard, of one batch, with numbers and parts that rise by one
abbrev pub Tells : ℕ → ℕ → ℕ → ℕ → ℕ → List Entry → Type 0
Tells shard rank batch seq part [] = Unit {0}
Tells shard rank batch seq part (e ∷ es) =
    ((e.shard ≡ shard) × (e.rank ≡ rank) × (e.batch ≡ batch) × (e.seq ≡ seq) × (e.part ≡ part)) × Tells shard rank batch (seq + 1) (part + 1) es
