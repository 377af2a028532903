-- What a program answers: what belongs to what the files spell, or the line that says why there is nothing.
use Rattle.std.specs.Prelude.{◌≡◌, ℕ, List, Option, Some, None, Result, Ok, Err}
use Rattle.rl_inputs.specs.declared.replay.Replay.{Replay}
use Rattle.rl_inputs.specs.Done.{TheAnswer, refusal}
use Rattle.rl_inputs.specs.Files.{Names, Texts, spelled}
use Rattle.rl_viewer.specs.declared.asking.Window.{Window}
use Rattle.rl_viewer.specs.Asking.{TheAsked}

-- an answer that belongs to what the files spell; else the line that refuses the first with a fault
abbrev pub AnswersAsSpelled : {X : Type 0} → (X → TheAnswer → Type 0) → Result X (List ℕ) → TheAnswer → Type 0
AnswersAsSpelled answers (Ok read) answer = answers read answer
AnswersAsSpelled answers (Err line) answer = answer ≡ refusal line

-- the answer belongs to what is asked for and to the texts of the files that are named; words that are no form are answered by the usage line
abbrev pub Answers : {P : Type 0} → List ℕ → (Names → P → Texts → TheAnswer → Type 0) → Option (TheAsked P) → Texts → TheAnswer → Type 0
Answers usage answers None texts answer = answer ≡ record { status = 1; text = usage }
Answers usage answers (Some asked) texts answer = answers asked.names asked.part texts answer

-- with 0 bytes that may show a replay in a window of its steps
abbrev pub ShowsIn : (Replay → Window → List ℕ → Type 0) → Window → Replay → TheAnswer → Type 0
ShowsIn shows window replay answer = (answer.status ≡ 0) × shows replay window answer.text

-- what a viewer answers
abbrev pub AnswersShown : (Replay → Window → List ℕ → Type 0) → Names → Window → Texts → TheAnswer → Type 0
AnswersShown shows names window texts answer = AnswersAsSpelled (ShowsIn shows window) (spelled names texts) answer
