-- A way of working has no dead end: whoever may work leaves less to do.
use Rattle.std.specs.Prelude.{◌≡◌, ◌⊎◌, ℕ, ◌+◌, ◌<◌, ◌≤◌, false, List, map, slice_get, slice_set, Some}
use Rattle.rl_word.specs.declared.acts.Atom.{Atom}
use Rattle.rl_model.specs.declared.call.Call.{Call}
use Rattle.rl_step.specs.declared.events.Standing.TheVariants.{Out}
use Rattle.rl_step.specs.Lock.{IsHolder}
use Rattle.rl_step.specs.Do.{do_got, do_words}
use Rattle.rl_site.specs.Opens.{IsOpen}
use Rattle.rl_work.specs.Ways.{WorkTable, WorkSide, IsLaid, IsSide, SameWork, Takes, Works}

-- the ranks' sides of the work
abbrev pub works_in : {K : Type 0} → List (WorkSide K) → List K
works_in sides = map (λ x. x.work) sides

-- a rank may be let work: it holds the lock, or nobody is at the lock
abbrev pub MayGo : {K : Type 0} → List (WorkSide K) → WorkSide K → Type 0
MayGo sides x = IsHolder x.standing ⊎ ((i : ℕ) (y : _) → slice_get sides i ≡ Some y → y.standing ≡ Out)

-- `left` is what is left to do of the open blocks, of the words and the ranks' sides
module _ {K : Type 0} (T : WorkTable K) (good : List ℕ → List (WorkSide K) → Type 0) (left : List ℕ → List K → ℕ) where
  -- The laws of a way of working without a dead end: of its good states. A block that is opened where none is open adds so much at most.
  pub record WorkEnds (most : ℕ) : Type 0 where
    pub nears : (words cards : List ℕ) (sides : List (WorkSide K)) (r : ℕ) (x : WorkSide K) (at : Atom) → Works T good words sides r x at → MayGo sides x →
        left (do_words at words) (slice_set (works_in sides) r (T.after r x.work (do_got at words cards)).work) < left words (works_in sides)
    pub frame : (words others : List ℕ) (sides : List (WorkSide K)) → good words sides → IsLaid T words → SameWork T words others →
        left others (works_in sides) ≡ left words (works_in sides)
    pub open_adds : (words : List ℕ) (sides : List (WorkSide K)) (r : ℕ) (x : WorkSide K) (calls : List Call) (seq : ℕ) → IsSide T good words sides r x →
        ((i : ℕ) (y : WorkSide K) → slice_get sides i ≡ Some y → (y.standing ≡ Out) × (T.is_open y.work ≡ false)) → IsOpen T.site r calls
        seq (T.kept x.work) → Takes T calls →
        left words (slice_set (works_in sides) r (T.opens r x.work calls seq)) ≤ left words (works_in sides) + most
