-- What is left to do at a lock whose card acts are split into atoms: as if each act that is begun were made, and then the atoms up to there.
use Rattle.std.specs.Prelude.{◌≡◌, ◌⊎◌, ℕ, ◌+◌, ◌*◌, ◌<◌, List, [], ◌∷◌, map, slice_get, slice_index, slice_set, Option, Some, None, sum_by}
use Rattle.rl_word.specs.declared.acts.Act.{Act}
use Rattle.rl_word.specs.declared.acts.Atom.{Atom}
use Rattle.rl_word.specs.Acts.{word_of, written, told}
use Rattle.rl_step.specs.Lock.{LockTable, IsHolder, AllOut}
use Rattle.rl_rank.specs.declared.card_state.CardState.{CardState}
use Rattle.rl_rank.specs.declared.card_state.CardState.TheVariants.{Free, InCard, Loaded, ToLeave}
use Rattle.rl_rank.specs.declared.side.Side.{Side}
use Rattle.rl_rank.specs.Split.{SplitState, side_atom, lock_of, view_of, moved}

-- the words and views of a lock
pub record Sight (V : Type 0) : Type 0 where
  pub words : List ℕ
  pub views : List V

-- the atoms that a rank has to make yet to be out of its card
abbrev pub atoms_in : CardState → ℕ
atoms_in Free = 0
atoms_in (ToLeave n) = 1
atoms_in (Loaded g) = 2
atoms_in InCard = 3

abbrev pub atoms_of : {V : Type 0} → Side V → ℕ
atoms_of x = atoms_in x.card

module _ {V : Type 0} (T : LockTable V) where
  -- rank r, whose view is v, makes the act a
  abbrev pub made : Sight V → ℕ → V → Act → Sight V
  made z r v a =
      record {
        words = slice_set z.words (word_of a) (written a (slice_index z.words (word_of a)));
        views = slice_set z.views r (T.learn v (told a (slice_index z.words (word_of a)))).view;
      }

  -- where it is in a card with it, and hasn't learnt it
  abbrev pub begun_by : Sight V → ℕ → V → Option Act → CardState → Sight V
  begun_by z r v None c = z
  begun_by z r v (Some a) Free = z
  begun_by z r v (Some a) (ToLeave n) = z
  begun_by z r v (Some a) InCard = made z r v a
  begun_by z r v (Some a) (Loaded g) = made z r v a

  abbrev pub begun_of : Sight V → ℕ → Side V → Sight V
  begun_of z r x = begun_by z r x.view (T.plan x.view) x.card

  -- so do all ranks of a list, numbered on from one
  abbrev pub begun : Sight V → ℕ → List (Side V) → Sight V
  begun z r [] = z
  begun z r (x ∷ xs) = begun (begun_of z r x) (r + 1) xs

  abbrev pub sight_of : SplitState V → Sight V
  sight_of s = record { words = s.words; views = map view_of s.sides }

  abbrev pub begun_in : SplitState V → Sight V
  begun_in s = begun (sight_of s) 0 s.sides

  module _ (left : List ℕ → List V → ℕ) where
    abbrev pub left_at : Sight V → ℕ
    left_at z = left z.words z.views

    -- what is left: four for each that the lock counts, and an atom each up to where no rank is in a card
    abbrev pub split_left : SplitState V → ℕ
    split_left s = 4 * left_at (begun_in s) + sum_by atoms_of s.sides

    -- no rank is in a card
    abbrev pub IsQuiet : SplitState V → Type 0
    IsQuiet s = (r : ℕ) (x : Side V) → slice_get s.sides r ≡ Some x → x.card ≡ Free

    -- rank r holds the lock
    pub record Holds (s : SplitState V) (r : ℕ) : Type 0 where
      pub side : Side V
      pub has : slice_get s.sides r ≡ Some side
      pub holder : IsHolder (T.standing side.view)

    -- rank r's next atom leaves less to do
    pub record AtomNears (s : SplitState V) (r : ℕ) : Type 0 where
      pub side : Side V
      pub has : slice_get s.sides r ≡ Some side
      pub at : Atom
      pub next : side_atom T side ≡ Some at
      pub less : split_left (moved T s r side at) < split_left s

    -- somebody goes on: by an atom of the lock that leaves less to do; else nobody is in a card, and all ranks are out or one holds the lock
    abbrev pub SomebodyGoes : SplitState V → Type 0
    SomebodyGoes s = (IsQuiet s × (AllOut T (lock_of s) ⊎ ((r : ℕ) × Holds s r))) ⊎ ((r : ℕ) × AtomNears s r)
