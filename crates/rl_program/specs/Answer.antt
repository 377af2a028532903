-- What the program answers to what is asked for, for the bytes of the files that are named.
use Rattle.std.specs.Prelude.{◌≡◌, ℕ, List, Bool, IsTrue, Option, Some, None, Result, Ok, Err, IfOk}
use Rattle.std.specs.Global.{Vec}
use Rattle.rl_place.specs.ShapeText.{shape_spelling}
use Rattle.rl_report.specs.Naming.{naming_of}
use Rattle.rl_report.specs.Spelling.{report_spelling}
use Rattle.rl_inputs.specs.declared.stop.Stop.{Stop}
use Rattle.rl_inputs.specs.Done.{TheAnswer, refusal, WasAnswered}
use Rattle.rl_inputs.specs.Files.{Names, Texts, AreTexts as AreReplayTexts, MayOpenFiles}
use Rattle.rl_inputs.specs.Reading.{◌>>=◌, placed, called, scheduled, Fits, Ends}
use Rattle.rl_making.specs.Summary.{made_summary}
use Rattle.rl_program.specs.Command.{Asked, Replay, Run, Check, Make, Show, usage_text}
use Rattle.rl_program.specs.Replay.{report_of_replay}
use Rattle.rl_program.specs.ReadBack.{IsReplayReadBack}
use Rattle.rl_program.specs.RunAnswer.{AreRunTexts, AnswersRun}
use Rattle.rl_program.specs.CheckAnswer.{AreCheckTexts, AnswersCheck}

-- ---- the files

-- the source may open the files that are named
abbrev pub MayRead : (List ℕ → Bool) → Option Asked → Type 0
MayRead may_open None = Unit {0}
MayRead may_open (Some (Replay names)) = MayOpenFiles may_open names
MayRead may_open (Some (Run names)) = IsTrue (may_open names.place) × IsTrue (may_open names.calls)
MayRead may_open (Some (Check names)) = IsTrue (may_open names.place) × IsTrue (may_open names.calls) × IsTrue (may_open names.report)
MayRead may_open (Some (Make number ranks calls)) = Unit {0}
MayRead may_open (Some (Show place)) = IsTrue (may_open place)

-- these are the bytes of the files that are named, where the source tells them
abbrev pub AreTexts : Option Asked → (List ℕ → Option (List ℕ)) → Texts → Type 0
AreTexts None file texts = Unit {0}
AreTexts (Some (Replay names)) file texts = AreReplayTexts file names texts
AreTexts (Some (Run names)) file texts = AreRunTexts file names texts
AreTexts (Some (Check names)) file texts = AreCheckTexts file names texts
AreTexts (Some (Make number ranks calls)) file texts = Unit {0}
AreTexts (Some (Show place)) file texts = Fits (file place) texts.place

-- no file is named
abbrev pub NamesNoFile : Option Asked → Type 0
NamesNoFile None = Unit {0}
NamesNoFile (Some (Make number ranks calls)) = Unit {0}
NamesNoFile (Some asked) = ⊥

-- ---- the answers

-- the report of a replay of the files of these names, or the line that refuses the first that has a fault
unfoldable pub replayed : Names → Texts → Result (List ℕ) (List ℕ)
replayed names texts = do
  place ← placed names.place texts.place
  ops ← called names.calls place texts.calls
  schedule ← scheduled names.schedule place texts.schedule
  Ok (report_spelling (naming_of place) (report_of_replay place ops schedule))

-- the shape of the placement in the file of this name, or the line that refuses it
unfoldable pub shown : List ℕ → List ℕ → Result (List ℕ) (List ℕ)
shown name bytes = do
  place ← placed name bytes
  Ok (shape_spelling place)

-- a text has status 0, the line that refuses a file 2
abbrev pub answer_to : Result (List ℕ) (List ℕ) → TheAnswer
answer_to (Ok text) = record { status = 0; text = text }
answer_to (Err line) = refusal line

-- The answer belongs to what is asked for and to the texts of the files that are named. It is one answer but for a run, to which each lawful
-- report belongs. A report that a replay or a run writes is read back, and legal.
abbrev pub Answers : Option Asked → Texts → TheAnswer → Type 0
Answers None texts answer = answer ≡ record { status = 1; text = usage_text }
Answers (Some (Replay names)) texts answer = (answer ≡ answer_to (replayed names texts)) × (answer.status ≡ 0 → IsReplayReadBack texts answer.text)
Answers (Some (Run names)) texts answer = AnswersRun names texts answer
Answers (Some (Check names)) texts answer = AnswersCheck names texts answer
Answers (Some (Make number ranks calls)) texts answer = answer ≡ record { status = 0; text = made_summary number ranks calls }
Answers (Some (Show place)) texts answer = answer ≡ answer_to (shown place texts.place)

-- ---- how far the answering has come

-- a replay of the named files came to what their bytes give
pub record WasReplayed (file : List ℕ → Option (List ℕ)) (names : Names) (result : Result (Vec ℕ) Stop) : Type 0 where
  pub texts : Texts
  pub are : AreReplayTexts file names texts
  pub ends : Ends (λ text. text.items) result (replayed names texts)
  -- and where it came to a report, they are replayed, and the report is read back
  pub replay : IfOk result (λ text. IsReplayReadBack texts text.items)

-- what was answered belongs to what is asked for and to the bytes of the named files
abbrev pub WasAnsweredTo : Option Asked → (List ℕ → Option (List ℕ)) → Result TheAnswer Stop → Type 0
WasAnsweredTo asked file result = WasAnswered (AreTexts asked) (Answers asked) file result
