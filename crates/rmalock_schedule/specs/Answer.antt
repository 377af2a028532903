-- What the program answers: the text of the schedule that is drawn of the sketch, and else the line and the status with which a file is refused.
use Rattle.std.specs.Prelude.{◌≡◌, ℕ, List, [], ◌∷◌, codes, decimal, length, Option, Result, Ok}
use Rattle.rl_text.specs.Spelling.{line_text}
use Rattle.rl_place.specs.Places.{ThePlace}
use Rattle.rl_ops.specs.Schedule.{schedule_spelling}
use Rattle.rl_inputs.specs.declared.stop.Stop.{Stop}
use Rattle.rl_inputs.specs.Done.{TheAnswer, refusal}
use Rattle.rl_inputs.specs.Reading.{◌>>=◌, Ends, within, refused_in, placed, called}
use Rattle.rl_inputs.specs.Files.{Names, Texts, AreTexts}
use Rattle.rl_locks.specs.Kinds.{lock_kind_of}
use Rattle.rl_sketch.specs.declared.sketch.Sketch.{Sketch}
use Rattle.rl_drawing.specs.declared.outcome.Drawn.{Drawn}
use Rattle.rl_drawing.specs.declared.outcome.Drawn.TheVariants.{Whole, Never}
use Rattle.rl_sketch.specs.SketchReading.{sketch_at}
use Rattle.rl_drawing.specs.Drawing.{ComesTo}
use Rattle.rl_viewer.specs.Answer.{AnswersAsSpelled}
use Rattle.rmalock_schedule.specs.declared.reading.Sketched.{Sketched}

-- the sketch of the file of this name, which isn't longer than a sketch may be, or the line that refuses it
unfoldable pub sketched : List ℕ → ThePlace → List ℕ → Result Sketch (List ℕ)
sketched name place bytes = within name 4194304 bytes >>= λ text. refused_in name (sketch_at (length place.paths) text)

-- what the files of these names spell, the sketch in the schedule's place, or the line that refuses the first that has a fault
unfoldable pub spelled : Names → Texts → Result Sketched (List ℕ)
spelled names texts = do
  place ← placed names.place texts.place
  ops ← called names.calls place texts.calls
  sketch ← sketched names.schedule place texts.schedule
  Ok (record { place = place; ops = ops; sketch = sketch })

-- a sketch comes to this, over the lock of its placement
abbrev pub Comes : Sketched → Drawn → Type 0
Comes s drawn = ComesTo (lock_kind_of s.place.lock).defined s.place s.ops s.sketch drawn

-- `refused NAME LINE 0 never`
abbrev pub never_line : List ℕ → ℕ → List ℕ
never_line name line = line_text (codes "refused" ∷ name ∷ decimal line ∷ codes "0" ∷ codes "never" ∷ [])

-- the text and the status of what a sketch comes to
abbrev pub TellsDrawn : List ℕ → Drawn → TheAnswer → Type 0
TellsDrawn name (Whole schedule) answer = answer ≡ record { status = 0; text = schedule_spelling schedule }
TellsDrawn name (Never line) answer = answer ≡ refusal (never_line name line)

-- what a sketch comes to is told so, where its file has this name
abbrev pub IsDrawnAs : List ℕ → Sketched → TheAnswer → Type 0
IsDrawnAs name sketched answer = (drawn : Drawn) × Comes sketched drawn × TellsDrawn name drawn answer

-- the answer to the files that are named
abbrev pub AnswersFiles : Names → Unit {0} → Texts → TheAnswer → Type 0
AnswersFiles names all texts answer = AnswersAsSpelled (IsDrawnAs names.schedule) (spelled names texts) answer

-- the files of these names were read, and they came to what their bytes spell
pub record WereRead (file : List ℕ → Option (List ℕ)) (names : Names) (result : Result Sketched Stop) : Type 0 where
  pub texts : Texts
  pub are : AreTexts file names texts
  pub ends : Ends (λ sketched. sketched) result (spelled names texts)
