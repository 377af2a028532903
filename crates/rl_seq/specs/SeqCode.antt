-- What the code needs of the numbers of a side, to name its atom and to go on behind it.
use Rattle.std.specs.Prelude.{◌≡◌, ℕ, ◌+◌, ◌^◌, ◌<◌, None}
use Rattle.rl_model.specs.declared.geom.Geom.{Geom}
use Rattle.rl_volume.specs.Seen.{value_of}
use Rattle.rl_volume.specs.Words.{volume_words}
use Rattle.rl_work.specs.Work.{TheWork, CanDecide, CanName, CanTurn}
use Rattle.rl_seq.specs.declared.stage.SeqStage.{SeqStage}
use Rattle.rl_seq.specs.declared.stage.SeqStage.TheVariants as stage

abbrev pub CanNameAt : Geom → TheWork → SeqStage → Type 0
CanNameAt geom w stage.Locked = CanName geom w w.stage
CanNameAt geom w stage.Look = Unit {0}
CanNameAt geom w (stage.Count version) = Unit {0}
CanNameAt geom w (stage.Read version count word) = word < volume_words geom
CanNameAt geom w (stage.Again version count) = Unit {0}
CanNameAt geom w stage.Decided = Unit {0}
CanNameAt geom w (stage.Open version) = version + 1 < 2 ^ 64
CanNameAt geom w (stage.Write version) = CanName geom w w.stage
CanNameAt geom w (stage.Close version) = version + 2 < 2 ^ 64

abbrev pub CanTurnAt : Geom → TheWork → ℕ → SeqStage → Type 0
CanTurnAt geom w got stage.Locked = CanTurn geom w got w.stage
CanTurnAt geom w got stage.Look = Unit {0}
CanTurnAt geom w got (stage.Count version) = got < 2 ^ 32
CanTurnAt geom w got (stage.Read version count word) = (word < w.seen.room) × (value_of w.seen.pairs word ≡ None)
CanTurnAt geom w got (stage.Again version count) = got ≡ version → CanDecide geom w count
CanTurnAt geom w got stage.Decided = Unit {0}
CanTurnAt geom w got (stage.Open version) = Unit {0}
CanTurnAt geom w got (stage.Write version) = CanTurn geom w got w.stage
CanTurnAt geom w got (stage.Close version) = Unit {0}
