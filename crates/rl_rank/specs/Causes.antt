-- Why a step is answered as it is: by the atom that was made and by what it found.
use Rattle.std.specs.Prelude.{◌≡◌, ◌≢◌, ◌⊎◌, ℕ, ◌+◌, true, slice_index, Option, Some, None}
use Rattle.rl_word.specs.declared.acts.Act.{Act}
use Rattle.rl_word.specs.declared.acts.Act.TheVariants as act
use Rattle.rl_word.specs.declared.acts.Atom.{Atom}
use Rattle.rl_word.specs.declared.acts.Atom.TheVariants as atom
use Rattle.rl_word.specs.Acts.{word_of}
use Rattle.rl_step.specs.declared.events.Stepped.{Stepped}
use Rattle.rl_step.specs.declared.events.Stepped.TheVariants.{Moved, Waiting, Lost, Busy, Finished}
use Rattle.rl_step.specs.Lock.{PlansLoad}
use Rattle.rl_step.specs.Do.{TheWindow, do_got}
use Rattle.rl_work.specs.Ways.{IsLoadAtom, IsNextLoad}
use Rattle.rl_rank.specs.Split.{side_atom}
use Rattle.rl_rank.specs.Running.{LockAt}
use Rattle.rl_rank.specs.declared.whole.WholeView.{WholeView}

-- the atom is where the act compares: the local compare-and-swap itself, or the load in the card of a CardCas; and it hopes for the guess
abbrev pub Compares : ℕ → Act → Atom → ℕ → Type 0
Compares base (act.Load w) at guess = ⊥
Compares base (act.Store w v) at guess = ⊥
Compares base (act.LocalCas w old new) at guess = (at ≡ atom.LocalCas (base + w) old new) × (guess ≡ old)
Compares base (act.CardCas w old new) at guess = (at ≡ atom.CardLoad (base + w)) × (guess ≡ old)
Compares base (act.CardSwap w v) at guess = ⊥
Compares base (act.CardAdd w d) at guess = ⊥

-- a rank with the lock view v has lost a compare: its act compares here, and the word had another value than the guess
pub record HasLost {V K : Type 0} (L : LockAt V K) (h : TheWindow) (v : V) (at : Atom) (guess seen : ℕ) : Type 0 where
  pub act : Act
  pub planned : L.table.plan v ≡ Some act
  pub compares : Compares L.base act at guess
  pub found : slice_index h.words (L.base + word_of act) ≡ seen
  pub other : seen ≢ guess

-- it has to wait on: it loaded this word, which had this value, the test of the waiting round isn't met, and it stands at the
-- load with which the round begins
pub record HasToWait {V K : Type 0} (L : LockAt V K) (h : TheWindow) (v : V) (at : Atom) (word value : ℕ) : Type 0 where
  pub act : Act
  pub planned : L.table.plan v ≡ Some act
  pub same_word : word ≡ L.base + word_of act
  pub made : at ≡ atom.Load word
  pub tells : value ≡ slice_index h.words word
  pub unmet : (L.table.learn v value).waits ≡ true
  pub again : PlansLoad (L.table.plan (L.table.learn v value).view)

-- it goes on: no Take that found the card held, no compare that was lost, no test of a waiting round that isn't met
pub record LockMoves {V K : Type 0} (L : LockAt V K) (h : TheWindow) (v : V) (at : Atom) : Type 0 where
  pub free : (node : ℕ) → at ≡ atom.Take node → slice_index h.cards node ≡ 0
  pub won : (guess seen : ℕ) → HasLost L h v at guess seen → ⊥
  pub met : (word value : ℕ) → HasToWait L h v at word value → ⊥

-- a rank with the view x makes this atom of its work: no atom of the lock is next
abbrev pub IsWork : {V K : Type 0} → LockAt V K → WholeView V K → Atom → Type 0
IsWork L x at = (side_atom L.table x.side ≡ None) × (L.work.next x.rank x.work ≡ Some at)

-- its work has to wait on: the atom loaded this word, which had this value, by which its work doesn't go on, and it stands at a load again
pub record WorkWaits {V K : Type 0} (L : LockAt V K) (h : TheWindow) (x : WholeView V K) (at : Atom) (word value : ℕ) : Type 0 where
  pub is_work : IsWork L x at
  pub made : at ≡ atom.Load word
  pub tells : value ≡ slice_index h.words word
  pub unmet : (L.work.after x.rank x.work value).stepped ≡ Waiting word value
  pub again : IsNextLoad (L.work.next x.rank (L.work.after x.rank x.work value).work)

-- its work has lost: the atom loaded another value than the guess, and its work begins again
pub record WorkLost {V K : Type 0} (L : LockAt V K) (h : TheWindow) (x : WholeView V K) (at : Atom) (guess seen : ℕ) : Type 0 where
  pub is_work : IsWork L x at
  pub loads : IsLoadAtom at
  pub found : do_got at h.words h.cards ≡ seen
  pub other : seen ≢ guess
  pub lost : (L.work.after x.rank x.work seen).stepped ≡ Lost guess seen

-- it goes on: an atom of it is answered Moved
abbrev pub WorkMoves : {V K : Type 0} → LockAt V K → TheWindow → WholeView V K → Atom → Type 0
WorkMoves L h x at = IsWork L x at → (L.work.after x.rank x.work (do_got at h.words h.cards)).stepped ≡ Moved

-- The cause of an answer, for a rank with the view x whose next atom is given, on these words and cards: Finished where it has none,
-- and else of the atom made, by the lock or by the work. Busy: a Take found the holder's number in the card. While the rank works no
-- act of the lock is planned.
abbrev pub Cause : {V K : Type 0} → LockAt V K → TheWindow → WholeView V K → Option Atom → Stepped → Type 0
Cause L h x None Moved = ⊥
Cause L h x None (Waiting w value) = ⊥
Cause L h x None (Lost guess seen) = ⊥
Cause L h x None (Busy node holder) = ⊥
Cause L h x None Finished = Unit {0}
Cause L h x (Some at) Moved = LockMoves L h x.side.view at × WorkMoves L h x at
Cause L h x (Some at) (Waiting word value) = HasToWait L h x.side.view at word value ⊎ WorkWaits L h x at word value
Cause L h x (Some at) (Lost guess seen) = HasLost L h x.side.view at guess seen ⊎ WorkLost L h x at guess seen
Cause L h x (Some at) (Busy node holder) = (at ≡ atom.Take node) × (slice_index h.cards node ≡ holder + 1)
Cause L h x (Some at) Finished = ⊥
