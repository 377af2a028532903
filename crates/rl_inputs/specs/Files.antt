-- The files of a replay: their names, their bytes, and what they spell together.
use Rattle.std.specs.Prelude.{ℕ, List, Bool, IsTrue, Option, Some, None, Result, Ok}
use Rattle.rl_inputs.specs.declared.stop.Stop.{Stop}
use Rattle.rl_inputs.specs.declared.files.Files.{Files}
use Rattle.rl_inputs.specs.declared.replay.Replay.{Replay}
use Rattle.rl_inputs.specs.Reading.{◌>>=◌, placed, called, scheduled, Fits, Ends}

-- the names of the files
pub record Names : Type 0 where
  pub place : List ℕ
  pub calls : List ℕ
  pub schedule : List ℕ

abbrev pub named : Files → Names
named files = record { place = files.place.now; calls = files.calls.now; schedule = files.schedule.now }

-- the bytes of the files that a program may be given; of those that aren't named nothing is said
pub record Texts : Type 0 where
  pub place : List ℕ
  pub calls : List ℕ
  pub schedule : List ℕ
  pub report : List ℕ

-- these are the bytes of the files of these names, where the source tells them
abbrev pub AreTexts : (List ℕ → Option (List ℕ)) → Names → Texts → Type 0
AreTexts file names texts = Fits (file names.place) texts.place × Fits (file names.calls) texts.calls × Fits (file names.schedule) texts.schedule

-- the source may open the files of these names
abbrev pub MayOpenFiles : (List ℕ → Bool) → Names → Type 0
MayOpenFiles may_open names = IsTrue (may_open names.place) × IsTrue (may_open names.calls) × IsTrue (may_open names.schedule)

-- the same where words name no files, since they are no form
abbrev pub AreTextsOf : Option Names → (List ℕ → Option (List ℕ)) → Texts → Type 0
AreTextsOf None file texts = Unit {0}
AreTextsOf (Some names) file texts = AreTexts file names texts

abbrev pub MayOpenFilesOf : (List ℕ → Bool) → Option Names → Type 0
MayOpenFilesOf may_open None = Unit {0}
MayOpenFilesOf may_open (Some names) = MayOpenFiles may_open names

-- what the files of these names spell, or the line that refuses the first that has a fault
unfoldable pub spelled : Names → Texts → Result Replay (List ℕ)
spelled names texts = do
  place ← placed names.place texts.place
  ops ← called names.calls place texts.calls
  schedule ← scheduled names.schedule place texts.schedule
  Ok (record { place = place; ops = ops; schedule = schedule })

-- the files of these names were read, and they came to what their bytes spell
pub record WereRead (file : List ℕ → Option (List ℕ)) (names : Names) (result : Result Replay Stop) : Type 0 where
  pub texts : Texts
  pub are : AreTexts file names texts
  pub ends : Ends (λ replay. replay) result (spelled names texts)
