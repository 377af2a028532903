-- What the code needs to know of a side, to name its atom and to go on behind it: the numbers fit.
use Rattle.std.specs.Prelude.{◌≡◌, ℕ, ◌+◌, ◌*◌, ◌^◌, ◌<◌, ◌≤◌, All, length, slice_index, None}
use Rattle.rl_volume.specs.Seen.{value_of}
use Rattle.rl_site.specs.Site.{journal_base, WaySite}
use Rattle.rl_combine.specs.declared.stage.CombineStage.{CombineStage}
use Rattle.rl_combine.specs.declared.stage.CombineStage.TheVariants.{Rest, Post, Raise, Look, Count, Sweep, Copy, Read, Journal, Volume, Answer, Mark, Collect, Lower}
use Rattle.rl_combine.specs.Posts.{combine_ranks}
use Rattle.rl_combine.specs.Combine.{TheCombineSide}

-- a word of a rank's post has a number of 32 bits
abbrev pub HasPost : WaySite → ℕ → Type 0
HasPost S rank = (rank < combine_ranks S) × (S.behind + 9 * combine_ranks S < 2 ^ 32)

abbrev pub CanName : WaySite → ℕ → TheCombineSide → CombineStage → Type 0
CanName S rank x Rest = Unit {0}
CanName S rank x (Post made) = HasPost S rank × (made < 5)
CanName S rank x Raise = HasPost S rank
CanName S rank x Look = HasPost S rank
CanName S rank x Count = Unit {0}
CanName S rank x (Sweep owner) = HasPost S owner
CanName S rank x (Copy owner made) = HasPost S owner × (made < 5)
CanName S rank x (Read owner word) = word < 2 ^ 31
CanName S rank x (Journal owner made) = (made < 6) × (journal_base S.site.geom + (6 * x.count + made) < 2 ^ 32)
CanName S rank x (Volume owner made) = (made ≤ length x.writes) × All (λ w. w.word < 2 ^ 31) x.writes × (x.count + 1 < 2 ^ 32)
CanName S rank x (Answer owner made) = HasPost S owner × (made < 3)
CanName S rank x (Mark owner) = HasPost S owner
CanName S rank x (Collect made) = HasPost S rank × (made < 3)
CanName S rank x Lower = HasPost S rank

-- behind the last word of a post that is copied
abbrev pub EndsCopy : TheCombineSide → ℕ → ℕ → Type 0
EndsCopy x got made = made + 1 ≡ 5 → got < 2 ^ 32

abbrev pub CanTurn : WaySite → ℕ → TheCombineSide → ℕ → CombineStage → Type 0
CanTurn S rank x got Rest = Unit {0}
CanTurn S rank x got (Post made) = made < 5
CanTurn S rank x got Raise = Unit {0}
CanTurn S rank x got Look = Unit {0}
CanTurn S rank x got Count = got < 2 ^ 32
CanTurn S rank x got (Sweep owner) = owner < combine_ranks S
CanTurn S rank x got (Copy owner made) = (made < 5) × (length x.copied ≡ made) × EndsCopy x got made
CanTurn S rank x got (Read owner word) = (word < x.seen.room) × (value_of x.seen.pairs word ≡ None)
CanTurn S rank x got (Journal owner made) = made < 6
CanTurn S rank x got (Volume owner made) = (made ≤ length x.writes) × (x.count + 1 < 2 ^ 32)
CanTurn S rank x got (Answer owner made) = made < 3
CanTurn S rank x got (Mark owner) = owner < combine_ranks S
CanTurn S rank x got (Collect made) = (made < 3) × (length x.copied ≡ made)
CanTurn S rank x got Lower = (length x.copied ≡ 3) × (slice_index x.copied 0 < 2 ^ 32) × (length x.kept.items < x.kept.room)
