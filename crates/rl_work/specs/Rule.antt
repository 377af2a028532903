-- What is promised of the rule, as statements: it holds at the start, is kept by all that happens, and says what the words and
-- transcripts are.
use Rattle.std.specs.Prelude.{◌≡◌, ℕ, ◌^◌, ◌<◌, List, [], ◌∷◌, length, slice_get, slice_set, Some, IsSome}
use Rattle.rl_word.specs.declared.acts.Atom.{Atom}
use Rattle.rl_model.specs.declared.call.Call.{Call}
use Rattle.rl_model.specs.Geom.{GeomFits}
use Rattle.rl_volume.specs.Walk.{most_reads}
use Rattle.rl_step.specs.declared.events.Event.{Event}
use Rattle.rl_step.specs.declared.events.Standing.{Standing}
use Rattle.rl_step.specs.declared.events.Standing.TheVariants.{Out, Asking}
use Rattle.rl_step.specs.Lock.{IsHolder, Shift}
use Rattle.rl_step.specs.Core.{home_at}
use Rattle.rl_step.specs.Do.{CanDo, do_got, do_words}
use Rattle.rl_journal.specs.Legal.{IsLegal}
use Rattle.rl_journal.specs.History.{history, IsSorted}
use Rattle.rl_site.specs.Site.{Site, lock_base, journal_of}
use Rattle.rl_work.specs.declared.stage.Stage.TheVariants.{Read}
use Rattle.rl_work.specs.Work.{work_atom, with_block, CanName, CanTurn}
use Rattle.rl_site.specs.Opens.{IsOpen, opening_words}
use Rattle.rl_work.specs.WorkGood.{WorkSide, WorkGood, IsApart, IsFirst, transcripts, side_after}

-- the side of a rank in a state that meets the rule
pub record IsSide (site : Site) (words : List ℕ) (sides : List WorkSide) (rank : ℕ) (x : WorkSide) : Type 0 where
  pub good : WorkGood site words sides
  pub there : slice_get sides rank ≡ Some x

-- before the first block the rule holds
abbrev pub OpeningIsGood : Type 0
OpeningIsGood =
    (site : Site) (sides : List WorkSide) → GeomFits site.geom → length sides ≡ length site.rooms →
    ((rank : ℕ) (x : WorkSide) → slice_get sides rank ≡ Some x → IsFirst site.geom x) → WorkGood site (opening_words site) sides

-- a rank that is out opens a block and asks for the lock
abbrev pub OpenKeeps : Type 0
OpenKeeps =
    (site : Site) (words : List ℕ) (sides : List WorkSide) (rank : ℕ) (x : WorkSide) → IsSide site words sides rank x → (calls : List Call)
    (seq : ℕ) → x.standing ≡ Out → IsOpen site rank calls seq x.work.transcript
    → WorkGood site words (slice_set sides rank (record { standing = Asking; work = with_block x.work calls seq }))

-- the lock changes a standing, as it does outside of the work
abbrev pub ShiftKeeps : Type 0
ShiftKeeps =
    (site : Site) (words : List ℕ) (sides : List WorkSide) (rank : ℕ) (x : WorkSide) → IsSide site words sides rank x →
    (standing : Standing) (events : List Event) → Shift rank x.standing standing events
    → WorkGood site words (slice_set sides rank (record { standing = standing; work = x.work }))

-- a holder has an atom of the work to make
abbrev pub HolderGoesOn : Type 0
HolderGoesOn = (site : Site) (words : List ℕ) (sides : List WorkSide) (rank : ℕ)
    (x : WorkSide) → IsSide site words sides rank x → IsHolder x.standing → IsSome (work_atom site.geom x.work)

-- which can be made
abbrev pub AtomCan : Type 0
AtomCan =
    (site : Site) (words : List ℕ) (sides : List WorkSide) (rank : ℕ) (x : WorkSide) → IsSide site words sides rank x → (at : Atom)
    (home : ℕ → ℕ) (cards : List ℕ) → work_atom site.geom x.work ≡ Some at → CanDo (home_at home at) rank at words cards

-- the code can name it, where the window's words have numbers of 32 bits
abbrev pub NameFits : Type 0
NameFits = (site : Site) (words : List ℕ) (sides : List WorkSide) (rank : ℕ)
    (x : WorkSide) → IsSide site words sides rank x → lock_base site < 2 ^ 32 → CanName site.geom x.work x.work.stage

-- and can go on behind it
abbrev pub TurnFits : Type 0
TurnFits =
    (site : Site) (words : List ℕ) (sides : List WorkSide) (rank : ℕ)
    (x : WorkSide) → IsSide site words sides rank x → lock_base site < 2 ^ 32 → (at : Atom)
    (cards : List ℕ) → work_atom site.geom x.work ≡ Some at
    → CanTurn site.geom x.work (do_got at words cards) x.work.stage

-- it keeps the rule, where the lock keeps writers alone and readers to gets
abbrev pub AtomKeeps : Type 0
AtomKeeps =
    (site : Site) (words : List ℕ) (sides : List WorkSide) (rank : ℕ)
    (x : WorkSide) → IsSide site words sides rank x → IsApart sides → IsHolder x.standing → (at : Atom)
    (cards : List ℕ) → work_atom site.geom x.work ≡ Some at
    → WorkGood site (do_words at words) (slice_set sides rank (side_after site rank x (do_got at words cards)))

-- a rank that reads a word for a call alone has read fewer than the call can want
abbrev pub ReadsFew : Type 0
ReadsFew =
    (site : Site) (words : List ℕ) (sides : List WorkSide) (rank : ℕ) (x : WorkSide) → IsSide site words sides rank x → (call : Call)
    (count word : ℕ) → x.work.calls ≡ call ∷ [] → x.work.stage ≡ Read count word
    → length x.work.seen.pairs < most_reads site.geom call

-- the journal that the words spell and the transcripts are legal
abbrev pub IsLegalAlways : Type 0
IsLegalAlways = (site : Site) (words : List ℕ) (sides : List WorkSide) → WorkGood site words sides → IsLegal site.geom
    (journal_of site words) (transcripts sides)

-- and their history is in order
abbrev pub IsSortedAlways : Type 0
IsSortedAlways = (site : Site) (words : List ℕ) (sides : List WorkSide) → WorkGood site words sides → IsSorted
    (history (journal_of site words) (transcripts sides))
