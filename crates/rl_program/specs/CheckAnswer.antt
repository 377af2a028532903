-- What the program answers to `check PLACE CALLS REPORT`, for the bytes of the files that the words name.
use Rattle.std.specs.Prelude.{◌≡◌, ℕ, List, [], ◌∷◌, ◌++◌, length, codes, decimal, Option, Some, None, Result, Ok, Err}
use Rattle.rl_text.specs.Spelling.{line_text}
use Rattle.rl_place.specs.Places.{ThePlace, IsProper}
use Rattle.rl_ops.specs.Ops.{OpsFit}
use Rattle.rl_report.specs.Naming.{naming_of}
use Rattle.rl_report.specs.Reports.{TheReport, ReportFits}
use Rattle.rl_report.specs.Reading.{report_at}
use Rattle.rl_inputs.specs.declared.stop.Stop.{Stop}
use Rattle.rl_inputs.specs.Done.{TheAnswer, refusal}
use Rattle.rl_inputs.specs.Files.{Texts}
use Rattle.rl_inputs.specs.Reading.{◌>>=◌, within, refused_in, placed, called, Fits, Ends}
use Rattle.rl_check.specs.declared.illegal.Group.{Group}
use Rattle.rl_check.specs.declared.illegal.Group.TheVariants as group
use Rattle.rl_check.specs.declared.illegal.Illegal.{Illegal}
use Rattle.rl_check.specs.Faults.{test_word}
use Rattle.rl_check.specs.Legal.{report_tests}
use Rattle.rl_check.specs.Tests.{IsFirstOf}
use Rattle.rl_program.specs.declared.checking.Checked.{Checked}
use Rattle.rl_program.specs.Command.{CheckNames}

-- ---- the files

-- the report of a placement in the file of this name, or the line that refuses it
unfoldable pub reported : List ℕ → ThePlace → List ℕ → Result TheReport (List ℕ)
reported name place bytes = within name 16777216 bytes >>= λ text. refused_in name (report_at (naming_of place) text)

-- what the files of these names spell, or the line that refuses the first that has a fault
unfoldable pub checked : CheckNames → Texts → Result Checked (List ℕ)
checked names texts = do
  place ← placed names.place texts.place
  ops ← called names.calls place texts.calls
  report ← reported names.report place texts.report
  Ok (record { place = place; ops = ops; report = report })

-- these are the bytes of the files of a check, where the source tells them
abbrev pub AreCheckTexts : (List ℕ → Option (List ℕ)) → CheckNames → Texts → Type 0
AreCheckTexts file names texts = Fits (file names.place) texts.place × Fits (file names.calls) texts.calls × Fits (file names.report) texts.report

-- ---- the answer

abbrev pub group_words : Group → List (List ℕ)
group_words (group.Shard s) = codes "shard" ∷ decimal s ∷ []
group_words (group.Rank k) = codes "rank" ∷ decimal k ∷ []

-- `legal`, or `illegal shard I PLACE TEST` or `illegal rank K PLACE TEST`
abbrev pub verdict : Option Illegal → TheAnswer
verdict None = record { status = 0; text = line_text (codes "legal" ∷ []) }
verdict (Some f) = record { status = 6; text = line_text (codes "illegal" ∷ group_words f.group ++ decimal f.place ∷ test_word f.test ∷ []) }

-- The answer that belongs to a check of these texts, which spell this or are refused so: what the first test is that fails, or the line of the
-- first file that is refused.
abbrev pub AnswersAsChecked : Result Checked (List ℕ) → TheAnswer → Type 0
AnswersAsChecked (Ok read) answer = (found : Option Illegal) × IsFirstOf (report_tests read.place read.ops read.report) found × (answer ≡ verdict found)
AnswersAsChecked (Err line) answer = answer ≡ refusal line

abbrev pub AnswersCheck : CheckNames → Texts → TheAnswer → Type 0
AnswersCheck names texts answer = AnswersAsChecked (checked names texts) answer

-- ---- how far the reading has come

-- what was read is proper
abbrev pub AreProper : Checked → Type 0
AreProper read = IsProper read.place × OpsFit (length read.place.paths) read.place.geom.shards read.ops × ReportFits (naming_of read.place) read.report

-- the files of these names were read, and this is what they came to
pub record WereChecked (file : List ℕ → Option (List ℕ)) (names : CheckNames) (result : Result Checked Stop) : Type 0 where
  pub texts : Texts
  pub are : AreCheckTexts file names texts
  pub ends : Ends (λ read. read) result (checked names texts)
