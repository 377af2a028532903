-- The rule of words and sides under which ranks post their calls, and a writer does all that it finds posted.
--
-- It stands on the rule of blocks that are done inside a lock (`WorkGood`): each rank has a *seat* there, and a posted call is a block
-- of its own rank's seat, whichever rank makes the atoms. A seat is out while its call isn't in hand, a writer while the call is, and
-- leaving from the store of the count of an update to the store of 2 to its flag.
use Rattle.std.specs.Prelude.{◌≡◌, ◌⊎◌, ℕ, ◌^◌, ◌<◌, true, List, [], ◌∷◌, length, take, slice_get, slice_index, Some}
use Rattle.rl_word.specs.declared.acts.Atom.TheVariants as atom
use Rattle.rl_model.specs.declared.call.Call.{Call}
use Rattle.rl_model.specs.declared.entry.Entry.{Entry}
use Rattle.rl_model.specs.Call.{is_update}
use Rattle.rl_step.specs.declared.events.Standing.{Standing}
use Rattle.rl_step.specs.declared.events.Standing.TheVariants.{Out, Asking, Writer, Reader, Leaving}
use Rattle.rl_volume.specs.Words.{volume_words}
use Rattle.rl_volume.specs.Seen.{SeenWords}
use Rattle.rl_work.specs.declared.stage.Stage.{Stage as BlockStage}
use Rattle.rl_work.specs.declared.stage.Stage.TheVariants as block
use Rattle.rl_site.specs.Site.{count_word, lock_base, WaySite}
use Rattle.rl_site.specs.Transcript.{TheTranscript}
use Rattle.rl_work.specs.Work.{TheWork, more_entries, work_atom, work_after, at_rest}
use Rattle.rl_site.specs.Opens.{IsOpen}
use Rattle.rl_work.specs.Ways.{WorkSide}
use Rattle.rl_work.specs.WorkGood.{WorkSide as Seat, WorkGood, IsDone, IsInCall}
use Rattle.rl_combine.specs.declared.stage.CombineStage.{CombineStage}
use Rattle.rl_combine.specs.declared.stage.CombineStage.TheVariants.{Rest, Post, Raise, Look, Count, Sweep, Copy, Read, Journal, Volume, Answer, Mark, Collect, Lower}
use Rattle.rl_combine.specs.Posts.{ThePost, combine_ranks, post_of, post_spelling, answer_spelling, answered_entry}
use Rattle.rl_combine.specs.Combine.{TheCombineSide, Opened, opened_of, in_hand}

-- how a rank stands, and its side of the work
abbrev pub RankSide : Type 0
RankSide = WorkSide TheCombineSide

-- the words before the lock's
abbrev pub front_of : WaySite → List ℕ → List ℕ
front_of S words = take (lock_base S.site) words

-- the open call is one of the shard with a number of its own, and there is room for it
abbrev pub HasOpen : WaySite → ℕ → Opened → Type 0
HasOpen S rank o = IsOpen S.site rank (o.call ∷ []) o.seq o.kept

-- a rank's call isn't in hand, and its seat has these entries
pub record IsFree (y : Seat) (t : TheTranscript) : Type 0 where
  pub out : y.standing ≡ Out
  pub has : y.work.transcript ≡ t

-- so many words of the call are posted, and the flag is 0
pub record IsPosting (S : WaySite) (p : ThePost) (rank : ℕ) (o : Opened) (y : Seat) (made : ℕ) : Type 0 where
  pub open_call : HasOpen S rank o
  pub flag : p.flag ≡ 0
  pub spelled : take made p.call ≡ take made (post_spelling o.call o.seq)
  pub free : IsFree y o.kept

-- the call isn't in hand and isn't done
pub record Waits (p : ThePost) (o : Opened) (y : Seat) : Type 0 where
  pub flag : p.flag ≡ 1
  pub free : IsFree y o.kept

-- it is in hand
pub record IsInHand (p : ThePost) (o : Opened) (y : Seat) : Type 0 where
  pub flag : p.flag ≡ 1
  pub writes : y.standing ≡ Writer
  pub has : y.work.transcript ≡ o.kept
  pub calls : y.work.calls ≡ o.call ∷ []
  pub seq : y.work.seq ≡ o.seq

-- it is an update that is done, and its flag is still 1
pub record IsCounted (p : ThePost) (o : Opened) (y : Seat) : Type 0 where
  pub flag : p.flag ≡ 1
  pub leaves : y.standing ≡ Leaving
  pub entry : Entry
  pub entries : y.work.entries ≡ entry ∷ []
  pub has : y.work.transcript ≡ more_entries o.kept (entry ∷ [])
  pub same_call : entry.call ≡ o.call
  pub same_seq : entry.seq ≡ o.seq
  pub update : is_update o.call ≡ true

-- it is done, and the post has its answer
pub record IsAnswered (S : WaySite) (p : ThePost) (rank : ℕ) (o : Opened) (y : Seat) : Type 0 where
  pub flag : p.flag ≡ 2
  pub small : slice_index p.answer 0 < 2 ^ 32
  pub free : IsFree y (more_entries o.kept (answered_entry S.site.shard rank o.seq o.call p.answer ∷ []))

-- how far a posted call is
pub data Progress (S : WaySite) (p : ThePost) (rank : ℕ) (o : Opened) (y : Seat) : Type 0 where
  waits : Waits p o y → Progress S p rank o y
  handled : IsInHand p o y → Progress S p rank o y
  counted : IsCounted p o y → Progress S p rank o y
  answered : IsAnswered S p rank o y → Progress S p rank o y

-- the call is posted: the words spell it
pub record IsPosted (S : WaySite) (p : ThePost) (rank : ℕ) (o : Opened) (y : Seat) : Type 0 where
  pub open_call : HasOpen S rank o
  pub spelled : p.call ≡ post_spelling o.call o.seq
  pub progress : Progress S p rank o y

-- the call is done, and so many words of its answer are copied
pub record IsCollecting (S : WaySite) (p : ThePost) (rank : ℕ) (o : Opened) (y : Seat) (copied : List ℕ) (made : ℕ) : Type 0 where
  pub open_call : HasOpen S rank o
  pub done : IsAnswered S p rank o y
  pub same : copied ≡ take made p.answer

-- a writer whose call is posted
abbrev pub IsCombiner : WaySite → ThePost → ℕ → RankSide → Seat → Type 0
IsCombiner S p rank x y = (x.standing ≡ Writer) × IsPosted S p rank (opened_of x.work) y

-- what holds of a rank's own call and post, by where it stands
abbrev pub OwnAt : WaySite → ThePost → ℕ → RankSide → Seat → CombineStage → Type 0
OwnAt S p rank x y Rest = IsDone x.standing × (p.flag ≡ 0) × IsFree y x.work.kept
OwnAt S p rank x y (Post made) = (x.standing ≡ Out) × (made < 5) × IsPosting S p rank (opened_of x.work) y made
OwnAt S p rank x y Raise = (x.standing ≡ Out) × IsPosting S p rank (opened_of x.work) y 5
OwnAt S p rank x y Look = IsInCall x.standing × IsPosted S p rank (opened_of x.work) y
OwnAt S p rank x y Count = IsCombiner S p rank x y
OwnAt S p rank x y (Sweep owner) = IsCombiner S p rank x y
OwnAt S p rank x y (Copy owner made) = IsCombiner S p rank x y
OwnAt S p rank x y (Read owner word) = IsCombiner S p rank x y
OwnAt S p rank x y (Journal owner made) = IsCombiner S p rank x y
OwnAt S p rank x y (Volume owner made) = IsCombiner S p rank x y
OwnAt S p rank x y (Answer owner made) = IsCombiner S p rank x y
OwnAt S p rank x y (Mark owner) = IsCombiner S p rank x y
OwnAt S p rank x y (Collect made) = (x.standing ≡ Writer) × (made < 3) × IsCollecting S p rank (opened_of x.work) y x.work.copied made
OwnAt S p rank x y Lower = (x.standing ≡ Writer) × IsCollecting S p rank (opened_of x.work) y x.work.copied 3

-- a sweep knows the count, and has come to a rank; the own call is done once it is past
pub record IsSweeping (S : WaySite) (words : List ℕ) (rank : ℕ) (count owner : ℕ) : Type 0 where
  pub same : count ≡ slice_index words count_word
  pub there : owner < combine_ranks S
  pub past : rank < owner → (post_of S words rank).flag ≡ 2

-- so many words of a post whose flag was found 1 are copied
pub record IsCopying (p : ThePost) (copied : List ℕ) (made : ℕ) : Type 0 where
  pub flag : p.flag ≡ 1
  pub few : made < 5
  pub same : copied ≡ take made p.call

-- the seat of the rank whose call is in hand, at a stage of its block, before the call is decided
abbrev pub reading : TheCombineSide → BlockStage → ℕ → List Entry → TheTranscript → Seat
reading x stage at entries t =
    record {
      standing = Writer;
      work = record {
        stage = stage;
        calls = x.posted ∷ [];
        seq = x.posted_number;
        seen = x.seen;
        replies = [];
        at = at;
        entries = entries;
        writes = [];
        transcript = t;
      };
    }

-- and after that: it has seen what it read, and knows its entry and what it writes
abbrev pub deciding : TheCombineSide → BlockStage → SeenWords → TheTranscript → Seat
deciding x stage seen t =
    let before : Seat = reading x stage x.count (x.entry ∷ []) t in
    record before { work = record before.work { seen = seen; replies = x.entry.reply ∷ []; writes = x.writes } }

-- the entry of a call in hand, which is decided
abbrev pub HasEntry : WaySite → Call → ℕ → Entry → ℕ → Type 0
HasEntry S call number entry owner = entry ≡ record {
  shard = S.site.shard;
  rank = owner;
  seq = number;
  call = call;
  at = entry.at;
  reply =
      entry.reply;
  batch = 0;
  part = 0;
}

-- the rank reads a word for the call in hand
pub record IsReading (seats : List Seat) (x : TheCombineSide) (owner word : ℕ) : Type 0 where
  pub at : ℕ
  pub entries : List Entry
  pub t : TheTranscript
  pub seat : slice_get seats owner ≡ Some (reading x (block.Read x.count word) at entries t)

-- it has decided the call in hand, an update, and writes
pub record IsWriting (S : WaySite) (seats : List Seat) (x : TheCombineSide) (owner : ℕ) (stage : BlockStage) : Type 0 where
  pub entry_is : HasEntry S x.posted x.posted_number x.entry owner
  pub small : x.entry.at < 2 ^ 32
  pub seen : SeenWords
  pub t : TheTranscript
  pub seat : slice_get seats owner ≡ Some (deciding x stage seen t)

-- an update in hand is done with the store of the count
pub record IsLeft (seats : List Seat) (entry : Entry) (owner : ℕ) : Type 0 where
  pub side : Seat
  pub seat : slice_get seats owner ≡ Some side
  pub leaves : side.standing ≡ Leaving
  pub entries : side.work.entries ≡ entry ∷ []

-- A get or hold in hand is decided. Its last load counts for its seat with the store of 2 to its flag: it gives the same then, and ends
-- the block with this entry.
pub record IsToEnd (S : WaySite) (words : List ℕ) (seats : List Seat) (call : Call) (number : ℕ) (entry : Entry) (owner : ℕ) : Type 0 where
  pub side : Seat
  pub seat : slice_get seats owner ≡ Some side
  pub writes : side.standing ≡ Writer
  pub calls : side.work.calls ≡ call ∷ []
  pub seq : side.work.seq ≡ number
  pub loads : ℕ
  pub low : loads < lock_base S.site
  pub atom : work_atom S.site.geom side.work ≡ Some (atom.Load loads)
  pub last : TheWork
  pub ends : work_after S.site.geom S.site.shard owner side.work (slice_index words loads) ≡ at_rest last
  pub entries : last.entries ≡ entry ∷ []
  pub same : last.transcript ≡ side.work.transcript

-- a call in hand is done but for its flag, and so many words of its answer are stored
pub record IsAnswering (S : WaySite) (words : List ℕ) (seats : List Seat) (call : Call) (number : ℕ) (entry : Entry) (owner made : ℕ) : Type 0 where
  pub entry_is : HasEntry S call number entry owner
  pub small : entry.at < 2 ^ 32
  pub stored : take made (post_of S words owner).answer ≡ take made (answer_spelling entry)
  pub end : IsLeft seats entry owner ⊎ IsToEnd S words seats call number entry owner

-- what holds of a rank's sweep, by where it stands
abbrev pub SweepAt : WaySite → List ℕ → List Seat → ℕ → TheCombineSide → CombineStage → Type 0
SweepAt S words seats rank x Rest = Unit {0}
SweepAt S words seats rank x (Post made) = Unit {0}
SweepAt S words seats rank x Raise = Unit {0}
SweepAt S words seats rank x Look = Unit {0}
SweepAt S words seats rank x Count = Unit {0}
SweepAt S words seats rank x (Sweep owner) = IsSweeping S words rank x.count owner
SweepAt S words seats rank x (Copy owner made) = IsSweeping S words rank x.count owner × IsCopying (post_of S words owner) x.copied made
SweepAt S words seats rank x (Read owner word) = IsSweeping S words rank x.count owner × IsReading seats x owner word
SweepAt S words seats rank x (Journal owner made) = IsSweeping S words rank x.count owner × IsWriting S seats x owner (block.Journal made)
SweepAt S words seats rank x (Volume owner made) = IsSweeping S words rank x.count owner × IsWriting S seats x owner (block.Volume made)
SweepAt S words seats rank x (Answer owner made) = IsSweeping S words rank x.count owner × (made < 3) × IsAnswering S words seats x.posted
    x.posted_number x.entry owner made
SweepAt S words seats rank x (Mark owner) = IsSweeping S words rank x.count owner × IsAnswering S words seats x.posted x.posted_number x.entry owner 3
SweepAt S words seats rank x (Collect made) = Unit {0}
SweepAt S words seats rank x Lower = Unit {0}

-- a rank has this one's call in hand
pub record IsHeld (sides : List RankSide) (owner : ℕ) : Type 0 where
  pub holder : ℕ
  pub side : RankSide
  pub there : slice_get sides holder ≡ Some side
  pub holds : in_hand side.work.stage ≡ Some owner

-- the rule
pub record CombineGood (S : WaySite) (words : List ℕ) (sides : List RankSide) : Type 0 where
  pub seats : List Seat
  pub ranks : length sides ≡ combine_ranks S
  pub work : WorkGood S.site (front_of S words) seats
  pub seen_rooms : (r : ℕ) (x : RankSide) → slice_get sides r ≡ Some x → x.work.seen.room ≡ volume_words S.site.geom
  pub own : (r : ℕ) (x : RankSide) (y : Seat) → slice_get sides r ≡ Some x → slice_get seats r ≡ Some y → OwnAt S (post_of S words r) r x y x.work.stage
  pub sweeps : (r : ℕ) (x : RankSide) → slice_get sides r ≡ Some x → SweepAt S words seats r x.work x.work.stage
  -- a seat that isn't out is that of a call in hand
  pub held : (k : ℕ) (y : Seat) → slice_get seats k ≡ Some y → (y.standing ≡ Out) ⊎ IsHeld sides k
