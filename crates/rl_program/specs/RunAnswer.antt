-- What the program answers to `run PLACE CALLS`, for the bytes of the files that the words name.
use Rattle.std.specs.Prelude.{◌≡◌, ℕ, List, Option, Result, Ok, Err, IfOk}
use Rattle.std.specs.Global.{Vec}
use Rattle.rl_place.specs.Places.{ThePlace}
use Rattle.rl_ops.specs.declared.ops.Ops.{Ops}
use Rattle.rl_inputs.specs.declared.stop.Stop.{Stop}
use Rattle.rl_inputs.specs.Done.{TheAnswer, refusal}
use Rattle.rl_inputs.specs.Files.{Texts}
use Rattle.rl_inputs.specs.Reading.{◌>>=◌, placed, called, Fits, EndsEarly}
use Rattle.rl_program.specs.Command.{RunNames}
use Rattle.rl_program.specs.ReadBack.{IsRunReadBack}

-- the placement and the calls of the files of these names, or the line that refuses the first that has a fault
unfoldable pub run_read : RunNames → Texts → Result (ThePlace × Ops) (List ℕ)
run_read names texts = do
  place ← placed names.place texts.place
  ops ← called names.calls place texts.calls
  Ok (place, ops)

-- An answer that belongs to a run of these texts, which spell this or are refused so. Which of several lawful reports a run gives isn't said:
-- it depends on how the threads come to their steps.
abbrev pub AnswersAsRead : Texts → Result (ThePlace × Ops) (List ℕ) → TheAnswer → Type 0
AnswersAsRead texts (Ok read) answer = (answer.status ≡ 0) × IsRunReadBack texts answer.text
AnswersAsRead texts (Err line) answer = answer ≡ refusal line

abbrev pub AnswersRun : RunNames → Texts → TheAnswer → Type 0
AnswersRun names texts answer = AnswersAsRead texts (run_read names texts) answer

-- these are the bytes of the files of a run, where the source tells them
abbrev pub AreRunTexts : (List ℕ → Option (List ℕ)) → RunNames → Texts → Type 0
AreRunTexts file names texts = Fits (file names.place) texts.place × Fits (file names.calls) texts.calls

-- what was read is there, unless the reading ended early
abbrev pub IsReadAs : {X Y : Type 0} → Result X Stop → Result Y (List ℕ) → Type 0
IsReadAs {Y = Y} (Ok x) told = (y : Y) × (told ≡ Ok y)
IsReadAs (Err why) told = EndsEarly why told

-- a run of the named files came to the text of a report, or ended early
pub record WasRun (file : List ℕ → Option (List ℕ)) (names : RunNames) (result : Result (Vec ℕ) Stop) : Type 0 where
  pub texts : Texts
  pub are : AreRunTexts file names texts
  pub read : IsReadAs result (run_read names texts)
  pub run : IfOk result (λ text. IsRunReadBack texts text.items)
