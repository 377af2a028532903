-- What a way of working is: its table of plain functions, the rule that it keeps with the words and the ranks' sides, and its laws.
use Rattle.std.specs.Prelude.{◌≡◌, ◌≢◌, ◌⊎◌, ℕ, ◌+◌, ◌^◌, ◌<◌, ◌≤◌, Bool, true, false, ◌&&◌, List, [], ◌∷◌, ◌++◌, length, replicate, count_by, take, slice_get, slice_index, slice_set, Option, Some, None, is_some}
use Rattle.std.specs.FinMap as finite
use Rattle.rl_word.specs.Shapes.{TheShape}
use Rattle.rl_word.specs.declared.acts.Atom.{Atom}
use Rattle.rl_word.specs.declared.acts.Atom.TheVariants as atom
use Rattle.rl_word.specs.declared.classes.Mode.{Mode}
use Rattle.rl_word.specs.declared.classes.Mode.TheVariants as mode
use Rattle.rl_model.specs.declared.call.Call.{Call}
use Rattle.rl_model.specs.declared.entry.Entry.{Entry}
use Rattle.rl_model.specs.Geom.{GeomFits}
use Rattle.rl_step.specs.declared.events.Event.{Event}
use Rattle.rl_step.specs.declared.events.Standing.{Standing}
use Rattle.rl_step.specs.declared.events.Standing.TheVariants.{Out, Asking, Writer, Reader, Leaving}
use Rattle.rl_step.specs.declared.events.Stepped.{Stepped}
use Rattle.rl_step.specs.declared.events.Stepped.TheVariants.{Moved, Waiting, Lost, Busy, Finished}
use Rattle.rl_step.specs.Lock.{IsHolder, Rests, Shift, Suits}
use Rattle.rl_step.specs.Do.{do_got, do_words}
use Rattle.rl_volume.specs.Volume.{IsVolume}
use Rattle.rl_journal.specs.Blocks.{calls_of, is_tenure}
use Rattle.rl_model.specs.Asked.{batch_number}
use Rattle.rl_journal.specs.Legal.{IsLegal, table_after}
use Rattle.rl_journal.specs.History.{history, IsSorted}
use Rattle.rl_work.specs.declared.follow.Follow.{Follow}
use Rattle.rl_work.specs.declared.follow.Follow.TheVariants.{On, Ask, Over}
use Rattle.rl_work.specs.declared.follow.WorkStep.{WorkStep}
use Rattle.rl_site.specs.Site.{Site, lock_base, places, volume_of, journal_by}
use Rattle.rl_site.specs.Transcript.{TheTranscript}
use Rattle.rl_site.specs.Opens.{IsGetAlone, IsOpen, IsOwnTranscript, Tells, opening_words}

-- how a rank stands, and its side of the work
pub record WorkSide (K : Type 0) : Type 0 where
  pub standing : Standing
  pub work : K

-- what an atom of the work leaves: the rank's side, what follows, and the answer
pub record Worked (K : Type 0) : Type 0 where
  pub work : K
  pub follow : Follow
  pub stepped : Stepped

-- the same, of what the code gives
abbrev pub worked_with : {K : Type 0} → K → WorkStep → Worked K
worked_with work step = record { work = work; follow = step.follow; stepped = step.stepped }

-- A way of working as plain functions. `K` is what a rank knows of its work, its *side*.
pub record WorkTable (K : Type 0) : Type 0 where
  -- the size of the table, the shard's number, and how many updates each rank may make
  pub site : Site
  -- the number of the first word behind the lock's, how many words of the work's own stand there, and where each lives. They are Plain
  -- and 0 at the start
  pub behind : ℕ
  pub size : ℕ
  pub home : ℕ → ℕ
  -- a rank's side before its first block, with room for so many entries: of the rank, and the room
  pub first : ℕ → ℕ → K
  -- the rank's side with this block open, whose first call has this number; no table step
  pub opens : ℕ → K → List Call → ℕ → K
  -- the mode in which the lock is asked for with the opening; None: the work begins without it
  pub asks : List Call → Option Mode
  -- the rank's next atom where the lock plans nothing: the rank stands Out, Writer or Reader
  pub next : ℕ → K → Option Atom
  -- what that atom leaves which gave a number
  pub after : ℕ → K → ℕ → Worked K
  -- that atom is a Touch, and whether it writes
  pub touch : K → Option Bool
  -- a block is open, as far as the work goes
  pub is_open : K → Bool
  -- of the open block its calls and the number of the first, and the mode in which the lock was asked for last
  pub calls : K → List Call
  pub seq : K → ℕ
  pub mode : K → Mode
  -- the entries that the rank keeps itself, with the room for them; and whether those of its open block aren't among them yet
  pub kept : K → TheTranscript
  pub pends : K → Bool
  -- those of the blocks that are over
  pub ended : K → List Entry
  -- by the words too: the rank's entries, and whether those of its open block aren't among them yet
  pub transcript : List ℕ → ℕ → K → List Entry
  pub owes : List ℕ → ℕ → K → Bool
  -- whether gets are no tenures of the lock by a writer, where readers share the lock or not
  pub spares : Bool → Bool
  -- whether a block may be a batch; else each is a call alone
  pub batches : Bool

-- how the work of a rank looks from outside: its open block, its entries with the room for them, and whether those of the block are owed
pub record Look : Type 0 where
  pub calls : List Call
  pub seq : ℕ
  pub items : List Entry
  pub room : ℕ
  pub owes : Bool

-- the block goes on, or there is none
pub record BlockGoesOn (a b : Look) : Type 0 where
  pub same_calls : b.calls ≡ a.calls
  pub same_seq : b.seq ≡ a.seq
  pub same_items : b.items ≡ a.items
  pub same_room : b.room ≡ a.room
  pub owes : b.owes ≡ a.owes

-- the block is done: its entries join, all of them
pub record EndsWork (shard rank : ℕ) (a b : Look) : Type 0 where
  pub was : a.owes ≡ true
  pub is_over : b.owes ≡ false
  pub same_room : b.room ≡ a.room
  pub entries : List Entry
  pub items : b.items ≡ a.items ++ entries
  pub calls_are : calls_of entries ≡ a.calls
  pub tells : Tells shard rank (batch_number (length a.calls)) a.seq 0 entries

abbrev pub AtomWork : ℕ → ℕ → Look → Look → Type 0
AtomWork shard rank a b = BlockGoesOn a b ⊎ EndsWork shard rank a b

module _ {K : Type 0} (T : WorkTable K) where
  -- by these words, and by the rank's side alone
  abbrev pub look : List ℕ → ℕ → K → Look
  look words r x = record { calls = T.calls x; seq = T.seq x; items = T.transcript words r x; room = (T.kept x).room; owes = T.is_open x && T.owes words r x }

  abbrev pub own_look : K → Look
  own_look x = record { calls = T.calls x; seq = T.seq x; items = (T.kept x).items; room = (T.kept x).room; owes = T.is_open x && T.pends x }

  -- the ranks' entries, from a rank on
  abbrev pub transcripts_from : List ℕ → ℕ → List (WorkSide K) → List (List Entry)
  transcripts_from words r [] = []
  transcripts_from words r (x ∷ sides) = T.transcript words r x.work ∷ transcripts_from words (r + 1) sides

-- the look of a rank that opens a block
abbrev pub opened_look : Look → List Call → ℕ → Look
opened_look a calls seq = record a { calls = calls; seq = seq; owes = true }

-- how a rank stands that opens a block, and the mode of its last ask then
abbrev pub opened_standing : Option Mode → Standing
opened_standing None = Out
opened_standing (Some m) = Asking

abbrev pub opened_mode : Option Mode → Mode → Mode
opened_mode None m = m
opened_mode (Some n) m = n

-- how a rank stands once its block is over: a holder leaves
abbrev pub standing_done : Standing → Standing
standing_done Out = Out
standing_done Asking = Asking
standing_done Writer = Leaving
standing_done Reader = Leaving
standing_done Leaving = Leaving

-- and by what follows
abbrev pub standing_after : Follow → Standing → Standing
standing_after On st = st
standing_after (Ask m) st = Asking
standing_after Over st = standing_done st

abbrev pub mode_after : Follow → Mode → Mode
mode_after On m = m
mode_after (Ask n) m = n
mode_after Over m = m

-- a block that is over was a tenure where its rank stood as a writer
abbrev pub tenure_by : Standing → ℕ
tenure_by Out = 0
tenure_by Asking = 0
tenure_by Writer = 1
tenure_by Reader = 0
tenure_by Leaving = 0

abbrev pub tenure_of : Follow → Standing → ℕ
tenure_of On st = 0
tenure_of (Ask m) st = 0
tenure_of Over st = tenure_by st

abbrev pub side_turned : {K : Type 0} → Standing → Worked K → WorkSide K
side_turned st t = record { standing = standing_after t.follow st; work = t.work }

-- the rank's side after its atom, which gave a number
abbrev pub side_after : {K : Type 0} → WorkTable K → ℕ → WorkSide K → ℕ → WorkSide K
side_after T r x got = side_turned x.standing (T.after r x.work got)

-- a rank at the start
pub record IsFirst {K : Type 0} (T : WorkTable K) (r : ℕ) (x : WorkSide K) : Type 0 where
  pub out : x.standing ≡ Out
  pub room : ℕ
  pub work : x.work ≡ T.first r room

-- The words lie as they have to: the lock's behind the journal, the work's own behind the lock's; and their numbers fit.
pub record IsLaid {K : Type 0} (T : WorkTable K) (words : List ℕ) : Type 0 where
  pub low : lock_base T.site ≤ T.behind
  pub all : length words ≡ T.behind + T.size
  pub fits : T.behind + T.size < 2 ^ 32

-- a word is there and isn't the lock's
pub record IsWorkWord {K : Type 0} (T : WorkTable K) (w : ℕ) : Type 0 where
  pub there : w < T.behind + T.size
  pub place : (w < lock_base T.site) ⊎ (T.behind ≤ w)

-- an atom of the work: a load or a store of such a word
abbrev pub IsWorkAtom : {K : Type 0} → WorkTable K → Atom → Type 0
IsWorkAtom T (atom.Load w) = IsWorkWord T w
IsWorkAtom T (atom.Store w v) = IsWorkWord T w
IsWorkAtom T (atom.LocalCas w old new) = ⊥
IsWorkAtom T (atom.Take n) = ⊥
IsWorkAtom T (atom.CardLoad w) = ⊥
IsWorkAtom T (atom.CardStore w v) = ⊥
IsWorkAtom T (atom.Leave n) = ⊥

abbrev pub IsLoadAtom : Atom → Type 0
IsLoadAtom (atom.Load w) = Unit {0}
IsLoadAtom (atom.Store w v) = ⊥
IsLoadAtom (atom.LocalCas w old new) = ⊥
IsLoadAtom (atom.Take n) = ⊥
IsLoadAtom (atom.CardLoad w) = ⊥
IsLoadAtom (atom.CardStore w v) = ⊥
IsLoadAtom (atom.Leave n) = ⊥

abbrev pub IsNextLoad : Option Atom → Type 0
IsNextLoad None = ⊥
IsNextLoad (Some at) = IsLoadAtom at

-- What the work needs of the lock: a writer has nobody beside it who holds the lock, and a reader has asked to read.
pub record IsApart {K : Type 0} (T : WorkTable K) (sides : List (WorkSide K)) : Type 0 where
  pub excludes : (i j : ℕ) (x y : WorkSide K) → slice_get sides i ≡ Some x → slice_get sides j ≡ Some y → x.standing ≡ Writer → IsHolder y.standing → i ≡ j
  pub reads : (r : ℕ) (x : WorkSide K) → slice_get sides r ≡ Some x → x.standing ≡ Reader → T.mode x.work ≡ mode.Read

-- the side of a rank in a state that meets the rule
pub record IsSide {K : Type 0} (T : WorkTable K) (good : List ℕ → List (WorkSide K) → Type 0) (words : List ℕ) (sides : List (WorkSide K))
    (r : ℕ) (x : WorkSide K) : Type 0 where
  pub is_good : good words sides
  pub laid : IsLaid T words
  pub there : slice_get sides r ≡ Some x

-- the rank is about to make this atom of the work
pub record Works {K : Type 0} (T : WorkTable K) (good : List ℕ → List (WorkSide K) → Type 0) (words : List ℕ) (sides : List (WorkSide K))
    (r : ℕ) (x : WorkSide K) (at : Atom) : Type 0 where
  pub side : IsSide T good words sides r x
  pub apart : IsApart T sides
  pub rests : Rests x.standing
  pub planned : T.next r x.work ≡ Some at

-- some good state has this side of this rank
pub record MayWork {K : Type 0} (T : WorkTable K) (good : List ℕ → List (WorkSide K) → Type 0) (r : ℕ) (x : K) : Type 0 where
  pub words : List ℕ
  pub sides : List (WorkSide K)
  pub standing : Standing
  pub side : IsSide T good words sides r (record { standing = standing; work = x })

-- and some good state has it and gives got for its next atom
pub record MayTurn {K : Type 0} (T : WorkTable K) (good : List ℕ → List (WorkSide K) → Type 0) (r : ℕ) (x : K) (got : ℕ) : Type 0 where
  pub words : List ℕ
  pub cards : List ℕ
  pub sides : List (WorkSide K)
  pub standing : Standing
  pub at : Atom
  pub works : Works T good words sides r (record { standing = standing; work = x }) at
  pub gives : got ≡ do_got at words cards

-- two windows differ in words of the lock alone
pub record SameWork {K : Type 0} (T : WorkTable K) (words others : List ℕ) : Type 0 where
  pub same_length : length others ≡ length words
  pub before : take (lock_base T.site) others ≡ take (lock_base T.site) words
  pub behind : (w : ℕ) → T.behind ≤ w → slice_index others w ≡ slice_index words w

-- how a rank goes on that stands so: a holder has an atom, and a rank that is out has one exactly where a block is open; a rank that
-- asks or holds has an open block, and a leaving one has none
abbrev pub GoesOnAt : Standing → Bool → Option Atom → Type 0
GoesOnAt Out b next = is_some next ≡ b
GoesOnAt Asking b next = b ≡ true
GoesOnAt Writer b next = (b ≡ true) × (is_some next ≡ true)
GoesOnAt Reader b next = (b ≡ true) × (is_some next ≡ true)
GoesOnAt Leaving b next = b ≡ false

-- the lock is asked for by a rank that is out
abbrev pub AsksOut : Follow → Standing → Type 0
AsksOut On st = Unit {0}
AsksOut (Ask m) st = st ≡ Out
AsksOut Over st = Unit {0}

-- a Touch is a holder's, and one that writes a writer's
abbrev pub TouchesAs : Option Bool → Standing → Type 0
TouchesAs None st = Unit {0}
TouchesAs (Some false) st = IsHolder st
TouchesAs (Some true) st = st ≡ Writer

-- an atom on a word before the lock's, which are those of count, volume and journal
abbrev pub IsFrontAtom : ℕ → Atom → Type 0
IsFrontAtom base (atom.Load w) = w < base
IsFrontAtom base (atom.Store w v) = w < base
IsFrontAtom base (atom.LocalCas w old new) = ⊥
IsFrontAtom base (atom.Take n) = ⊥
IsFrontAtom base (atom.CardLoad w) = ⊥
IsFrontAtom base (atom.CardStore w v) = ⊥
IsFrontAtom base (atom.Leave n) = ⊥

-- How such an atom is told: a store is a Touch that writes, and a load one that reads, but for those of a get alone by a rank that is out.
abbrev pub TellsTouch : ℕ → Atom → Standing → List Call → Option Bool → Type 0
TellsTouch base (atom.Load w) st calls touch = w < base → (touch ≡ Some false) ⊎ ((st ≡ Out) × IsGetAlone calls)
TellsTouch base (atom.Store w v) st calls touch = w < base → touch ≡ Some true
TellsTouch base (atom.LocalCas w old new) st calls touch = Unit {0}
TellsTouch base (atom.Take n) st calls touch = Unit {0}
TellsTouch base (atom.CardLoad w) st calls touch = Unit {0}
TellsTouch base (atom.CardStore w v) st calls touch = Unit {0}
TellsTouch base (atom.Leave n) st calls touch = Unit {0}

-- The answer of an atom of the work that gave got: where it has to wait, of the word that it loaded with this value, it stands at a load
-- again; it has lost by a load of another value than its guess; and else it has moved.
abbrev pub AnswersAs : Atom → ℕ → Option Atom → Follow → Stepped → Type 0
AnswersAs at got again follow Moved = Unit {0}
AnswersAs at got again follow (Waiting word value) = (at ≡ atom.Load word) × (value ≡ got) × IsNextLoad again × (follow ≡ On)
AnswersAs at got again follow (Lost guess seen) = IsLoadAtom at × (seen ≡ got) × (seen ≢ guess)
AnswersAs at got again follow (Busy node holder) = ⊥
AnswersAs at got again follow Finished = ⊥

-- the rank waits on by its atom, a load of this word that gave got: it has the side that it had, and the atom is no Touch
abbrev pub WaitsOn : {K : Type 0} → WorkTable K → ℕ → K → ℕ → ℕ → Type 0
WaitsOn T r x word got = (T.after r x got ≡ record { work = x; follow = On; stepped = Waiting word got }) × (T.touch x ≡ None)

-- a rank with this side of the work is out or has the lock, in each state that meets the rule
abbrev pub RestsBy : {K : Type 0} → WorkTable K → (List ℕ → List (WorkSide K) → Type 0) → K → Type 0
RestsBy T good x = (words : List ℕ) (sides : List (WorkSide _)) (r : ℕ) (st : Standing) →
    IsSide T good words sides r (record { standing = st; work = x }) → Rests st

-- the way of working does blocks of so many calls
abbrev pub Takes : {K : Type 0} → WorkTable K → List Call → Type 0
Takes T calls = T.batches ≡ false → length calls ≡ 1

-- The laws of a way of working: of its table and of its rule, which speaks of all words of the window and of the sides of all ranks.
pub record WorkLaws {K : Type 0} (T : WorkTable K) (good : List ℕ → List (WorkSide K) → Type 0) : Type 0 where
  -- it has few words
  pub few_words : length T.site.rooms ≤ 32 → T.size ≤ 2 ^ 16
  -- the opening words and first sides are good, and of a first side nothing is known but its room
  pub begins : GeomFits T.site.geom → (n : ℕ) → lock_base T.site ≤ T.behind → lock_base T.site + n ≡ T.behind + T.size →
      (sides : List (WorkSide K)) → length sides ≡ length T.site.rooms →
      ((r : ℕ) (x : WorkSide K) → slice_get sides r ≡ Some x → IsFirst T r x) → good (opening_words T.site ++ replicate n 0) sides
  pub first : (r room : ℕ) → (T.kept (T.first r room) ≡ record { items = []; room = room }) × (T.mode (T.first r room) ≡ mode.Write) ×
      (T.is_open (T.first r room) ≡ false)
  -- the rule speaks of fitting sizes, of a side for each room, and of no word of the lock
  pub fits : (words : List ℕ) (sides : List (WorkSide K)) → good words sides → GeomFits T.site.geom × (length sides ≡ length T.site.rooms)
  pub frame : (words others : List ℕ) (sides : List (WorkSide K)) → good words sides → IsLaid T words → SameWork T words others → good others sides
  pub same_look : (words others : List ℕ) (sides : List (WorkSide K)) (r : ℕ) (x : WorkSide K) → IsSide T good words sides r x →
      SameWork T words others → look T others r x.work ≡ look T words r x.work
  -- it stays where a rank that is out, with no block open, opens one that fits
  pub opens : (words : List ℕ) (sides : List (WorkSide K)) (r : ℕ) (x : WorkSide K) (calls : List Call) (seq : ℕ) →
      IsSide T good words sides r x → x.standing ≡ Out → T.is_open x.work ≡ false → IsOpen T.site r calls seq (T.kept x.work) →
      Takes T calls →
      good words (slice_set sides r (record { standing = opened_standing (T.asks calls); work = T.opens r x.work calls seq }))
  pub opened : (words : List ℕ) (sides : List (WorkSide K)) (r : ℕ) (x : WorkSide K) (calls : List Call) (seq : ℕ) →
      IsSide T good words sides r x → x.standing ≡ Out → T.is_open x.work ≡ false → IsOpen T.site r calls seq (T.kept x.work) →
      Takes T calls →
      (look T words r (T.opens r x.work calls seq) ≡ opened_look (look T words r x.work) calls seq) ×
      (own_look T (T.opens r x.work calls seq) ≡ opened_look (own_look T x.work) calls seq)
      × (T.is_open (T.opens r x.work calls seq) ≡ true) × (T.ended (T.opens r x.work calls seq) ≡ T.ended x.work) ×
      (T.mode (T.opens r x.work calls seq) ≡ opened_mode (T.asks calls) (T.mode x.work))
  -- where no block is open the rank keeps all its entries itself, and all are of blocks that are over
  pub closed : (words : List ℕ) (sides : List (WorkSide K)) (r : ℕ) (x : WorkSide K) → IsSide T good words sides r x →
      T.is_open x.work ≡ false → (T.transcript words r x.work ≡ (T.kept x.work).items) × (T.ended x.work ≡ (T.kept x.work).items)
  -- a rank's entries by the words are those that it keeps itself, and then more
  pub keeps : (words : List ℕ) (sides : List (WorkSide K)) (r : ℕ) (x : WorkSide K) → IsSide T good words sides r x →
      (more : List Entry) × (T.transcript words r x.work ≡ (T.kept x.work).items ++ more)
  -- it stays where the lock changes a standing
  pub shifts : (words : List ℕ) (sides : List (WorkSide K)) (r : ℕ) (x : WorkSide K) (standing : Standing) (events : List Event) →
      IsSide T good words sides r x → Shift r x.standing standing events →
      good words (slice_set sides r (record { standing = standing; work = x.work }))
  -- and where a rank makes an atom of the work
  pub makes : (words cards : List ℕ) (sides : List (WorkSide K)) (r : ℕ) (x : WorkSide K) (at : Atom) → Works T good words sides r x at →
      good (do_words at words) (slice_set sides r (side_after T r x (do_got at words cards)))
  -- which is a load or a store of a word that is there and isn't the lock's
  pub plain : (words : List ℕ) (sides : List (WorkSide K)) (r : ℕ) (x : WorkSide K) (at : Atom) → Works T good words sides r x at → IsWorkAtom T at
  pub goes_on : (words : List ℕ) (sides : List (WorkSide K)) (r : ℕ) (x : WorkSide K) → IsSide T good words sides r x →
      GoesOnAt x.standing (T.is_open x.work) (T.next r x.work)
  pub follows : (words cards : List ℕ) (sides : List (WorkSide K)) (r : ℕ) (x : WorkSide K) (at : Atom) → Works T good words sides r x at →
      AsksOut (T.after r x.work (do_got at words cards)).follow x.standing ×
      (T.mode (T.after r x.work (do_got at words cards)).work ≡ mode_after (T.after r x.work (do_got at words cards)).follow
      (T.mode x.work))
  -- a holder's atoms on the words before the lock's are touches, and no other atom is one
  pub touches : (words : List ℕ) (sides : List (WorkSide K)) (r : ℕ) (x : WorkSide K) (at : Atom) → Works T good words sides r x at →
      TouchesAs (T.touch x.work) x.standing
  pub tells : (words : List ℕ) (sides : List (WorkSide K)) (r : ℕ) (x : WorkSide K) (at : Atom) → Works T good words sides r x at →
      TellsTouch (lock_base T.site) at x.standing (T.calls x.work) (T.touch x.work)
  pub fronts : (words : List ℕ) (sides : List (WorkSide K)) (r : ℕ) (x : WorkSide K) (at : Atom) → Works T good words sides r x at →
      T.touch x.work ≢ None → IsFrontAtom (lock_base T.site) at
  pub answers : (words cards : List ℕ) (sides : List (WorkSide K)) (r : ℕ) (x : WorkSide K) (at : Atom) → Works T good words sides r x at →
      AnswersAs at (do_got at words cards) (T.next r (T.after r x.work (do_got at words cards)).work)
      (T.after r x.work (do_got at words cards)).follow (T.after r x.work (do_got at words cards)).stepped
  -- one rank alone never waits and never loses
  pub alone : (words cards : List ℕ) (sides : List (WorkSide K)) (r : ℕ) (x : WorkSide K) (at : Atom) → length sides ≡ 1 →
      Works T good words sides r x at → (T.after r x.work (do_got at words cards)).stepped ≡ Moved
  -- journal and transcripts are legal, their history is in order, the journal is no longer than its place, and each rank's entries are its
  -- own, in order, within its room
  pub legal : (words : List ℕ) (sides : List (WorkSide K)) → good words sides → IsLaid T words →
      IsLegal T.site.geom (journal_by T.site words) (transcripts_from T words 0 sides)
  pub sorted : (words : List ℕ) (sides : List (WorkSide K)) → good words sides → IsLaid T words →
      IsSorted (history (journal_by T.site words) (transcripts_from T words 0 sides))
  pub short : (words : List ℕ) (sides : List (WorkSide K)) → good words sides → IsLaid T words → length (journal_by T.site words) ≤ places T.site
  pub own : (words : List ℕ) (sides : List (WorkSide K)) (r : ℕ) (x : WorkSide K) → IsSide T good words sides r x →
      IsOwnTranscript T.site r (T.transcript words r x.work)
  -- after an atom each rank's block goes on, or is done: under some ways by another rank
  pub changes : (words cards : List ℕ) (sides : List (WorkSide K)) (r : ℕ) (x : WorkSide K) (at : Atom) → Works T good words sides r x at →
      (k : ℕ) (u w : WorkSide K) → slice_get sides k ≡ Some u →
      slice_get (slice_set sides r (side_after T r x (do_got at words cards))) k ≡ Some w → AtomWork T.site.shard k (look T words k u.work)
      (look T (do_words at words) k w.work)
  -- and so it is by what the rank keeps itself
  pub turns : (words cards : List ℕ) (sides : List (WorkSide K)) (r : ℕ) (x : WorkSide K) (at : Atom) → Works T good words sides r x at →
      AtomWork T.site.shard r (own_look T x.work) (own_look T (T.after r x.work (do_got at words cards)).work)
  -- the blocks that are over are one tenure more exactly where a writer's is over
  pub tenures : (words cards : List ℕ) (sides : List (WorkSide K)) (r : ℕ) (x : WorkSide K) (at : Atom) → Works T good words sides r x at →
      (shares : Bool) → Suits shares (T.mode x.work) x.standing →
      count_by (is_tenure (T.spares shares)) (T.ended (T.after r x.work (do_got at words cards)).work)
      ≡ count_by (is_tenure (T.spares shares)) (T.ended x.work) + tenure_of (T.after r x.work (do_got at words cards)).follow x.standing
  -- while no block is open the volume is that of the journal's table
  pub volume : (words : List ℕ) (sides : List (WorkSide K)) → good words sides → IsLaid T words →
      ((r : ℕ) (x : WorkSide K) → slice_get sides r ≡ Some x → T.is_open x.work ≡ false) →
      IsVolume T.site.geom T.site.shard (volume_of T.site.geom (take (lock_base T.site) words)) (table_after T.site.geom finite.empty (journal_by T.site words))

module _ {K : Type 0} (defined : TheShape → ℕ → Site → ℕ → WorkTable K) where
  -- by whatever shape, home, site and place, it does batches, and spares gets, as is said
  abbrev pub DoesAsSaid : (Bool → Bool) → Bool → Type 0
  DoesAsSaid spares batches =
      (shape : TheShape) (home : ℕ) (site : Site) (behind : ℕ) → ((defined shape home site behind).spares ≡ spares) × ((defined shape home site behind).batches ≡ batches)

  -- it keeps the site and the place
  abbrev pub IsPlacedAsSaid : Type 0
  IsPlacedAsSaid = (shape : TheShape) (home : ℕ) (site : Site) (behind : ℕ) → ((defined shape home site behind).site ≡ site) × ((defined shape home site behind).behind ≡ behind)

-- by whatever words, a rank's transcript is what it keeps, and it owes what its side says
abbrev pub KeepsAllItself : {K : Type 0} → WorkTable K → Type 0
KeepsAllItself T = (words : List ℕ) (rank : ℕ) (x : _) → (T.transcript words rank x ≡ (T.kept x).items) × (T.owes words rank x ≡ T.pends x)
