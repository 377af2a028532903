-- What a sweep and the flags promise.
use Rattle.std.specs.Prelude.{◌≡◌, ◌⊎◌, ℕ, true, List, [], ◌∷◌, slice_get, Option, Some}
use Rattle.rl_word.specs.declared.acts.Atom.{Atom}
use Rattle.rl_word.specs.declared.acts.Atom.TheVariants.{Store, LocalCas, CardStore}
use Rattle.rl_model.specs.Call.{is_update}
use Rattle.rl_step.specs.declared.events.Standing.TheVariants.{Writer}
use Rattle.rl_step.specs.Do.{do_words}
use Rattle.rl_journal.specs.Legal.{IsLegalRead}
use Rattle.rl_site.specs.Site.{journal_by, WaySite}
use Rattle.rl_combine.specs.declared.stage.CombineStage.{CombineStage}
use Rattle.rl_combine.specs.declared.stage.CombineStage.TheVariants.{Answer, Mark}
use Rattle.rl_combine.specs.Posts.{post_of, flag_word, post_spelling, answered_entry}
use Rattle.rl_combine.specs.Combine.{TheCombineSide, combine_atom, combine_after, combine_is_open, early}
use Rattle.rl_combine.specs.CombineGood.{RankSide}

-- a rank's side after several of its atoms, which gave these numbers
abbrev pub after_all : WaySite → ℕ → TheCombineSide → List ℕ → TheCombineSide
after_all S rank x [] = x
after_all S rank x (got ∷ more) = after_all S rank (combine_after S rank x got).work more

-- and those atoms
abbrev pub atoms_of : WaySite → ℕ → TheCombineSide → List ℕ → List (Option Atom)
atoms_of S rank x [] = []
atoms_of S rank x (got ∷ more) = combine_atom S rank x ∷ atoms_of S rank (combine_after S rank x got).work more

-- one of them stores 2 to this rank's flag
pub record StoresTwo (S : WaySite) (owner : ℕ) (atoms : List (Option Atom)) : Type 0 where
  pub place : ℕ
  pub is : slice_get atoms place ≡ Some (Some (Store (flag_word S owner) 2))

-- a writer has done with this rank's call but for the answer and the flag: an update is counted by then
abbrev pub IsLateAt : CombineStage → ℕ → Type 0
IsLateAt (Answer owner made) k = owner ≡ k
IsLateAt (Mark owner) k = owner ≡ k
IsLateAt _ k = ⊥

-- a writer has stored the count of rank k's update, and not made its flag 2 yet; its view names the rank. The rank's own side is x
pub record IsLate (sides : List RankSide) (k : ℕ) (x : TheCombineSide) : Type 0 where
  pub rank : ℕ
  pub side : RankSide
  pub there : slice_get sides rank ≡ Some side
  pub writes : side.standing ≡ Writer
  pub late : IsLateAt side.work.stage k
  pub update : is_update x.call ≡ true

-- what the flag of rank k says, whose own side is x
pub record FlagSays (S : WaySite) (words : List ℕ) (sides : List RankSide) (k : ℕ) (x : TheCombineSide) : Type 0 where
  pub few : ((post_of S words k).flag ≡ 0) ⊎ (((post_of S words k).flag ≡ 1) ⊎ ((post_of S words k).flag ≡ 2))
  -- where it is 1 the post's words spell the open call,
  pub posted : (post_of S words k).flag ≡ 1 → (combine_is_open x.stage ≡ true) × ((post_of S words k).call ≡ post_spelling x.call x.seq)
  -- which isn't done, but where a writer is late:
  pub not_done : (post_of S words k).flag ≡ 1 → (early S words k x ≡ []) ⊎ IsLate sides k x
  -- as long as one is the flag is 1 and the call is done, and its one entry is the one that the writer has
  pub late : (l : IsLate sides k x) → ((post_of S words k).flag ≡ 1) × (early S words k x ≡ l.side.work.entry ∷ [])
  -- where it is 2 the call is done, and its one entry is the one that the post's answer gives
  pub done : (post_of S words k).flag ≡ 2 → (combine_is_open x.stage ≡ true) ×
      (early S words k x ≡ answered_entry S.site.shard k x.seq x.call (post_of S words k).answer ∷ [])
  -- Of an update that is the entry in the journal. A get or hold leaves none there, and `early` takes its entry from the answer: so of
  -- that it says too that the reply is the one on the table of the journal up to the answer's place.
  pub due : (post_of S words k).flag ≡ 2 → IsLegalRead S.site.geom (journal_by S.site words)
      (answered_entry S.site.shard k x.seq x.call (post_of S words k).answer)

-- the atom may write this word
abbrev pub MayWrite : ℕ → Atom → Type 0
MayWrite word (Store w value) = w ≡ word
MayWrite word (LocalCas w old new) = w ≡ word
MayWrite word (CardStore w value) = w ≡ word
MayWrite word _ = ⊥

-- the atom stores this flag to rank k's, which was another
pub record StoresFlag (S : WaySite) (words : List ℕ) (at : Atom) (k was is : ℕ) : Type 0 where
  pub store : at ≡ Store (flag_word S k) is
  pub before : (post_of S words k).flag ≡ was
  pub after : (post_of S (do_words at words) k).flag ≡ is

-- What an atom of rank r, whose side is x, has to do with the flag of rank k: it doesn't write it; or it is the owner's own and raises it
-- from 0 to 1, or lowers it from 2 to 0; or it is a writer's, about to mark that rank's call as done, and makes it 2 from 1.
pub data FlagMoves (S : WaySite) (words : List ℕ) (at : Atom) (r : ℕ) (x : RankSide) (k : ℕ) : Type 0 where
  passes : (MayWrite (flag_word S k) at → ⊥) → (post_of S (do_words at words) k).flag ≡ (post_of S words k).flag → FlagMoves S words at r x k
  raises : k ≡ r → StoresFlag S words at k 0 1 → FlagMoves S words at r x k
  lowers : k ≡ r → StoresFlag S words at k 2 0 → FlagMoves S words at r x k
  marks : x.standing ≡ Writer → x.work.stage ≡ Mark k → StoresFlag S words at k 1 2 → FlagMoves S words at r x k
