-- The work's part of the rule of a window: of the words before the lock's, and of each rank's standing and side of the work.
use Rattle.std.specs.Prelude.{◌≡◌, ℕ, ◌+◌, ◌*◌, ◌<◌, ◌≤◌, Bool, true, false, List, [], ◌∷◌, ◌++◌, All, length, map, take, slice_get, slice_index, Some, None}
use Rattle.std.specs.FinMap as finite
use Rattle.rl_model.specs.declared.call.Call.{Call}
use Rattle.rl_model.specs.declared.entry.Entry.{Entry}
use Rattle.rl_model.specs.declared.entry.Reply.{Reply}
use Rattle.rl_model.specs.declared.geom.Geom.{Geom}
use Rattle.rl_model.specs.Geom.{GeomFits}
use Rattle.rl_step.specs.declared.events.Standing.{Standing}
use Rattle.rl_step.specs.declared.events.Standing.TheVariants.{Out, Asking, Writer, Reader, Leaving}
use Rattle.rl_step.specs.Lock.{IsHolder}
use Rattle.rl_volume.specs.declared.write.Write.{Write}
use Rattle.rl_volume.specs.Words.{volume_words}
use Rattle.rl_volume.specs.Volume.{IsVolume}
use Rattle.rl_volume.specs.Seen.{AgreesWith, AreNamed, value_of, next_word}
use Rattle.rl_volume.specs.Decision.{words_written}
use Rattle.rl_work.specs.declared.stage.Stage.{Stage}
use Rattle.rl_work.specs.declared.stage.Stage.TheVariants.{Rest, Begin, Read, Journal, Volume}
use Rattle.rl_journal.specs.Journal.{Agrees, spelled}
use Rattle.rl_journal.specs.Blocks.{in_turn, any_stops, calls_of}
use Rattle.rl_journal.specs.Legal.{table_after, IsLegal, IsLegalBlock}
use Rattle.rl_journal.specs.Ranks.{IsOwn}
use Rattle.rl_model.specs.Asked.{asks_update}
use Rattle.rl_site.specs.Site.{Site, count_word, journal_base, lock_base, volume_of}
use Rattle.rl_work.specs.Work.{TheWork, WorkTurned, work_after}
use Rattle.rl_work.specs.Ways.{WorkSide as SideOf}
use Rattle.rl_site.specs.Opens.{IsOpen, IsOwnTranscript}

-- how a rank stands, and its side of the work
abbrev pub WorkSide : Type 0
WorkSide = SideOf TheWork

-- What the work needs of the lock: a writer has nobody beside it who holds the lock, and a reader's call is a get.
pub record IsApart (sides : List WorkSide) : Type 0 where
  pub excludes : (i j : ℕ) (x y : WorkSide) → slice_get sides i ≡ Some x → slice_get sides j ≡ Some y → x.standing ≡ Writer → IsHolder y.standing → i ≡ j
  pub reads : (r : ℕ) (x : WorkSide) → slice_get sides r ≡ Some x → x.standing ≡ Reader → asks_update x.work.calls ≡ false

abbrev pub transcript_of : WorkSide → List Entry
transcript_of x = x.work.transcript.items

abbrev pub transcripts : List WorkSide → List (List Entry)
transcripts sides = map transcript_of sides

-- a rank with no open call stands so
abbrev pub IsDone : Standing → Type 0
IsDone Out = Unit {0}
IsDone Asking = ⊥
IsDone Writer = ⊥
IsDone Reader = ⊥
IsDone Leaving = Unit {0}

-- and a rank whose call is open stands so
abbrev pub IsInCall : Standing → Type 0
IsInCall Out = ⊥
IsInCall Asking = Unit {0}
IsInCall Writer = Unit {0}
IsInCall Reader = Unit {0}
IsInCall Leaving = ⊥

abbrev pub HasOpen : Site → ℕ → TheWork → Type 0
HasOpen site rank x = IsOpen site rank x.calls x.seq x.transcript

-- what the writes of a decided block come to: the block is the next one of the journal, and the writes, in a volume of the
-- journal's table, make one of the table after the block
pub record IsNext (site : Site) (rank : ℕ) (journal : List Entry) (before : List ℕ) (b : List Entry) (writes : List Write) : Type 0 where
  pub own : All (IsOwn site.shard rank) b
  pub legal : IsLegalBlock site.geom (table_after site.geom finite.empty journal) (length journal) b
  pub mine : legal.rank ≡ rank
  pub inside : All (λ w. w.word < volume_words site.geom) writes
  pub makes : IsVolume site.geom site.shard (words_written before writes) (table_after site.geom finite.empty (journal ++ b))

-- a rank has decided the first calls of its block and none stopped it, and knows the volume that their writes would make
pub record IsPartly (site : Site) (journal : List Entry) (before : List ℕ) (calls : List Call) (replies : List Reply) (writes : List Write)
    (pairs : List (ℕ × ℕ)) (rest : List Call) : Type 0 where
  pub first : List Call
  pub split : first ++ rest ≡ calls
  pub replies_are : replies ≡ (in_turn site.geom (table_after site.geom finite.empty journal) first).1
  pub none_stops : (length calls ≡ 1 → ⊥) → any_stops replies ≡ false
  pub makes : IsVolume site.geom site.shard (words_written before writes) (in_turn site.geom (table_after site.geom finite.empty journal) first).0
  pub inside : All (λ w. w.word < volume_words site.geom) writes
  pub agrees : AgreesWith pairs (words_written before writes)
  -- the kept writes are all among what was seen, so the words that are still to be read have their values
  pub elsewhere : (word : ℕ) → value_of pairs word ≡ None → slice_index (words_written before writes) word ≡ slice_index before word

-- of a rank's side
abbrev pub HasDecided : Site → List Entry → List ℕ → TheWork → List Call → Type 0
HasDecided site journal before x rest = IsPartly site journal before x.calls x.replies x.writes x.seen.pairs rest

-- a rank that found the count, and reads for the next call of its block
pub record IsReading (site : Site) (rank : ℕ) (journal : List Entry) (before : List ℕ) (x : WorkSide) (count word : ℕ) : Type 0 where
  pub open_call : HasOpen site rank x.work
  pub holds : IsHolder x.standing
  pub found : count ≡ length journal
  pub call : Call
  pub rest : List Call
  pub partly : HasDecided site journal before x.work (call ∷ rest)
  pub next : next_word site.geom call x.work.seen.pairs ≡ Some word
  -- a call alone has read nothing but what it wanted, word after word
  pub named : length x.work.calls ≡ 1 → AreNamed site.geom call x.work.seen.pairs

-- a writer that has decided
pub record IsDecided (site : Site) (rank : ℕ) (journal : List Entry) (before : List ℕ) (x : WorkSide) : Type 0 where
  pub open_call : HasOpen site rank x.work
  pub writes : x.standing ≡ Writer
  pub update : asks_update x.work.calls ≡ true
  pub found : x.work.at ≡ length journal
  pub same_calls : calls_of x.work.entries ≡ x.work.calls
  pub is_next : IsNext site rank journal before x.work.entries x.work.writes
  pub same_seq : is_next.legal.seq ≡ x.work.seq

-- the first so many words of the journal places behind the last entry are written
abbrev pub IsSpelled : Geom → List ℕ → List Entry → List Entry → ℕ → Type 0
IsSpelled geom words journal b made = Agrees words (journal_base geom + 6 * length journal) (take made (spelled b))

-- what holds of a rank, by where it stands in the work
abbrev pub FitsAt : Site → List ℕ → List Entry → List ℕ → ℕ → WorkSide → Stage → Type 0
FitsAt site words journal before rank x Rest = IsDone x.standing
FitsAt site words journal before rank x Begin =
    HasOpen site rank x.work × IsInCall x.standing × (x.work.seen.pairs ≡ []) × (x.work.replies ≡ []) × (x.work.writes ≡ [])
FitsAt site words journal before rank x (Read count word) = IsReading site rank journal before x count word
FitsAt site words journal before rank x (Journal made) =
    IsDecided site rank journal before x × (made < 6 * length x.work.entries) × IsSpelled site.geom words journal x.work.entries made
FitsAt site words journal before rank x (Volume made) =
    IsDecided site rank journal before x × (made ≤ length x.work.writes) × IsSpelled site.geom words journal x.work.entries (6 * length x.work.entries)
    × (volume_of site.geom words ≡ words_written before (take made x.work.writes))

abbrev pub Fits : Site → List ℕ → List Entry → List ℕ → ℕ → WorkSide → Type 0
Fits site words journal before rank x = FitsAt site words journal before rank x x.work.stage

-- the rank makes its writes
abbrev pub is_writing : Stage → Bool
is_writing Rest = false
is_writing Begin = false
is_writing (Read count word) = false
is_writing (Journal made) = false
is_writing (Volume made) = true

-- The rule. `journal` is the updates so far, and `before` is the volume as it was when the last of them was done.
pub record WorkGood (site : Site) (words : List ℕ) (sides : List WorkSide) : Type 0 where
  pub journal : List Entry
  pub before : List ℕ
  pub geom_fits : GeomFits site.geom
  pub size : length words ≡ lock_base site
  pub ranks : length sides ≡ length site.rooms
  pub fixed : slice_index words 0 ≡ 1
  pub count : slice_index words count_word ≡ length journal
  -- the journal's words below the count spell it
  pub spells : Agrees words (journal_base site.geom) (spelled journal)
  -- the volume was one of the journal's table, and is as it was while nobody makes writes
  pub volume : IsVolume site.geom site.shard before (table_after site.geom finite.empty journal)
  pub still : ((r : ℕ) (x : WorkSide) → slice_get sides r ≡ Some x → is_writing x.work.stage ≡ false) → volume_of site.geom words ≡ before
  -- each entry of the journal is one of this shard
  pub here : All (λ e. IsOwn site.shard e.rank e) journal
  pub legal : IsLegal site.geom journal (transcripts sides)
  pub own : (r : ℕ) (x : WorkSide) → slice_get sides r ≡ Some x → IsOwnTranscript site r x.work.transcript.items
  -- and room for all words of the volume
  pub seen_rooms : (r : ℕ) (x : WorkSide) → slice_get sides r ≡ Some x → x.work.seen.room ≡ volume_words site.geom
  pub fits : (r : ℕ) (x : WorkSide) → slice_get sides r ≡ Some x → Fits site words journal before r x

-- the work is over: a holder leaves
abbrev pub standing_after : Bool → Standing → Standing
standing_after true st = Leaving
standing_after false st = st

abbrev pub side_turned : Standing → WorkTurned → WorkSide
side_turned st t = record { standing = standing_after t.over st; work = t.work }

-- what an atom of the work that gave got leaves of rank's side
abbrev pub side_after : Site → ℕ → WorkSide → ℕ → WorkSide
side_after site rank x got = side_turned x.standing (work_after site.geom site.shard rank x.work got)

-- a rank at the start
pub record IsFirst (geom : Geom) (x : WorkSide) : Type 0 where
  pub out : x.standing ≡ Out
  pub rests : x.work.stage ≡ Rest
  pub nothing : x.work.transcript.items ≡ []
  pub seen_room : x.work.seen.room ≡ volume_words geom
