-- What is left to do under flat combining: of each rank by its stage alone, since no rank waits for another in its work.
use Rattle.std.specs.Prelude.{ℕ, ◌+◌, ◌*◌, ◌-◌, List, length, sum_by}
use Rattle.rl_volume.specs.Words.{volume_words}
use Rattle.rl_work.specs.LockedLeft.{words_unseen}
use Rattle.rl_combine.specs.declared.stage.CombineStage.{CombineStage}
use Rattle.rl_combine.specs.declared.stage.CombineStage.TheVariants.{Rest, Post, Raise, Look, Count, Sweep, Copy, Read, Journal, Volume, Answer, Mark, Collect, Lower}
use Rattle.rl_combine.specs.Posts.{combine_ranks}
use Rattle.rl_site.specs.Site.{WaySite}
use Rattle.rl_combine.specs.Combine.{TheCombineSide}

-- from the look at the flag of this rank on: a posted call is done in as many atoms as the volume has words and 40 at most
abbrev pub sweep_left : ℕ → ℕ → ℕ → ℕ
sweep_left volume ranks owner = 5 + (volume + 40) * (ranks - owner)

-- how many atoms a rank has before it at most
abbrev pub far_at : ℕ → ℕ → TheCombineSide → CombineStage → ℕ
far_at volume ranks x Rest = 0
far_at volume ranks x (Post made) = sweep_left volume ranks 0 + 4 + (5 - made)
far_at volume ranks x Raise = sweep_left volume ranks 0 + 3
far_at volume ranks x Look = sweep_left volume ranks 0 + 2
far_at volume ranks x Count = sweep_left volume ranks 0 + 1
far_at volume ranks x (Sweep owner) = sweep_left volume ranks owner
far_at volume ranks x (Copy owner made) = sweep_left volume ranks (owner + 1) + 19 + volume + (5 - made)
far_at volume ranks x (Read owner word) = sweep_left volume ranks (owner + 1) + 18 + words_unseen volume x.seen.pairs
far_at volume ranks x (Journal owner made) = sweep_left volume ranks (owner + 1) + 6 + length x.writes + (6 - made)
far_at volume ranks x (Volume owner made) = sweep_left volume ranks (owner + 1) + 5 + (length x.writes - made)
far_at volume ranks x (Answer owner made) = sweep_left volume ranks (owner + 1) + 1 + (3 - made)
far_at volume ranks x (Mark owner) = sweep_left volume ranks (owner + 1) + 1
far_at volume ranks x (Collect made) = 1 + (3 - made)
far_at volume ranks x Lower = 1

abbrev pub far : WaySite → TheCombineSide → ℕ
far S x = far_at (volume_words S.site.geom) (combine_ranks S) x x.stage

abbrev pub combine_left : WaySite → List ℕ → List TheCombineSide → ℕ
combine_left S words works = sum_by (far S) works

abbrev pub combine_most : WaySite → ℕ
combine_most S = sweep_left (volume_words S.site.geom) (combine_ranks S) 0 + 9
