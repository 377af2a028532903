-- What is promised of flat combining, as statements.
use Rattle.std.specs.Prelude.{◌≡◌, ◌<◌, ℕ, ◌+◌, ◌*◌, false, List, ◌∷◌}
use Rattle.rl_word.specs.declared.acts.Atom.{Atom}
use Rattle.rl_work.specs.Ways.{WorkLaws, IsSide, Works}
use Rattle.rl_combine.specs.declared.stage.CombineStage.TheVariants.{Sweep}
use Rattle.rl_site.specs.Site.{WaySite}
use Rattle.rl_combine.specs.Combine.{TheCombineSide, combine_table, combine_is_open}
use Rattle.rl_combine.specs.CombineGood.{RankSide, CombineGood}
use Rattle.rl_combine.specs.Sweep.{after_all, atoms_of, StoresTwo, FlagSays, FlagMoves}

-- it is a way of working: the rule holds at the start, is kept by all that happens, and under it journal and transcripts are legal at
-- every moment; a call is done at most once, by whichever rank
abbrev pub IsWay : Type 0
IsWay = (S : WaySite) (node : ℕ → ℕ) → WorkLaws (combine_table S node) (CombineGood S)

-- a rank that found the flag 1 in its sweep has stored 2 there before its call is over, and so before it leaves the lock
abbrev pub SweepsStoreTwo : Type 0
SweepsStoreTwo =
    (S : WaySite) (rank : ℕ) (x : TheCombineSide) (owner : ℕ) (more : List ℕ) → x.stage ≡ Sweep owner → combine_is_open
    (after_all S rank x (1 ∷ more)).stage ≡ false → StoresTwo S owner (atoms_of S rank x (1 ∷ more))

-- what a flag says
abbrev pub FlagsSay : Type 0
FlagsSay =
    (S : WaySite) (node : ℕ → ℕ) (words : List ℕ) (sides : List RankSide) (rank : ℕ) (x : RankSide) → IsSide (combine_table S node)
    (CombineGood S) words sides rank x → FlagSays S words sides rank x.work

-- and who stores to it
abbrev pub FlagsMove : Type 0
FlagsMove =
    (S : WaySite) (node : ℕ → ℕ) (words : List ℕ) (sides : List RankSide) (rank : ℕ) (x : RankSide) (at : Atom) → Works
    (combine_table S node) (CombineGood S) words sides rank x at → (k : ℕ) →
    FlagMoves S words at rank x k

-- The nine words of a rank's post live on its owner's node, which the work counts from its own first word: so who waits for its answer
-- loads a word of its own node
abbrev pub PostsAtTheirOwners : Type 0
PostsAtTheirOwners = (S : WaySite) (node : ℕ → ℕ) (owner i : ℕ) → i < 9 → (combine_table S node).home (9 * owner + i) ≡ node owner
