-- What is left to do under a sequence lock: how far each rank is from the end of its block, by its side alone; and beside that where each
-- get stands in its try, which the version says too.
use Rattle.std.specs.Prelude.{ℕ, ◌+◌, ◌*◌, ◌==◌, if◌then◌else◌, List, length}
use Rattle.rl_ending.specs.TwoSums.{two_sums}
use Rattle.rl_volume.specs.Words.{volume_words}
use Rattle.rl_work.specs.declared.stage.Stage.{Stage}
use Rattle.rl_work.specs.declared.stage.Stage.TheVariants.{Rest}
use Rattle.rl_work.specs.LockedLeft.{words_unseen, far_at, far as work_far}
use Rattle.rl_work.specs.Work.{TheWork}
use Rattle.rl_seq.specs.declared.stage.SeqStage.{SeqStage}
use Rattle.rl_seq.specs.declared.stage.SeqStage.TheVariants as stage
use Rattle.rl_seq.specs.Site.{version_in}
use Rattle.rl_site.specs.Site.{WaySite}
use Rattle.rl_seq.specs.SeqWork.{TheSeqWork}

-- of an open block inside the lock: it may have to load the version, and to store it twice
abbrev pub open_far : ℕ → TheWork → Stage → ℕ
open_far volume w Rest = 0
open_far volume w inside = far_at volume w inside + 4

abbrev pub far_in : ℕ → TheWork → SeqStage → ℕ
far_in volume w stage.Locked = open_far volume w w.stage
far_in volume w stage.Look = 1
far_in volume w (stage.Count version) = 1
far_in volume w (stage.Read version count word) = 1
far_in volume w (stage.Again version count) = 1
far_in volume w stage.Decided = work_far volume w + 3
far_in volume w (stage.Open version) = work_far volume w + 2
far_in volume w (stage.Write version) = work_far volume w + 1
far_in volume w (stage.Close version) = 1

abbrev pub far : ℕ → TheSeqWork → ℕ
far volume x = far_in volume x.work x.stage

-- a get that has found another version than there is now will lose, and has a whole try before it then
abbrev pub anew : ℕ → ℕ → ℕ → ℕ
anew volume now version = if now == version then 0 else volume + 5

-- how many atoms a get has before it at most, while the version stays as it is now
abbrev pub near_in : ℕ → ℕ → TheWork → SeqStage → ℕ
near_in volume now w stage.Locked = 0
near_in volume now w stage.Look = volume + 4
near_in volume now w (stage.Count version) = volume + 3 + anew volume now version
near_in volume now w (stage.Read version count word) = words_unseen volume w.seen.pairs + 2 + anew volume now version
near_in volume now w (stage.Again version count) = 1 + anew volume now version
near_in volume now w stage.Decided = 0
near_in volume now w (stage.Open version) = 0
near_in volume now w (stage.Write version) = 0
near_in volume now w (stage.Close version) = 0

abbrev pub near : ℕ → ℕ → TheSeqWork → ℕ
near volume now x = near_in volume now x.work x.stage

-- which is so much at most
abbrev pub most_near : ℕ → ℕ
most_near volume = 2 * volume + 8

-- an update makes the tries of all gets longer, and pays for that with its own atoms
abbrev pub seq_left : WaySite → List ℕ → List TheSeqWork → ℕ
seq_left at words works = two_sums (most_near (volume_words at.site.geom)) (far (volume_words at.site.geom))
    (near (volume_words at.site.geom) (version_in at words)) works

-- a block has 8 calls at most
abbrev pub seq_most : WaySite → ℕ
seq_most at = (volume_words at.site.geom + 97) * (1 + most_near (volume_words at.site.geom) * length at.site.rooms) + most_near (volume_words at.site.geom)
