-- What the program answers: the schedule made complete of the replay that the files spell, and else the line that says why there is none.
use Rattle.std.specs.Prelude.{◌≡◌, ◌⊎◌, ℕ, List}
use Rattle.rl_inputs.specs.declared.replay.Replay.{Replay}
use Rattle.rl_inputs.specs.Done.{TheAnswer}
use Rattle.rl_inputs.specs.Files.{Names, Texts, spelled}
use Rattle.rl_locks.specs.Kinds.{lock_kind_of}
use Rattle.rl_locks.specs.Urgencies.{urgency_of}
use Rattle.rl_completed.specs.declared.uncompleted.Reason.{Reason}
use Rattle.rl_completed.specs.Completing.{IsComplete, IsReason, reason_line}
use Rattle.rl_viewer.specs.Answer.{AnswersAsSpelled}

-- with status 0 a text is the schedule of a replay made complete
abbrev pub Completes : Replay → List ℕ → Type 0
Completes replay text = IsComplete (lock_kind_of replay.place.lock).defined (urgency_of replay.place.lock) replay.place replay.ops replay.schedule text

-- with status 2 it is the line of a reason that holds, for a schedule file of this name
abbrev pub TellsReason : List ℕ → Replay → List ℕ → Type 0
TellsReason name replay text = (reason : Reason) × IsReason (lock_kind_of replay.place.lock).defined
    (urgency_of replay.place.lock) replay.place replay.ops replay.schedule reason × (text ≡ reason_line name reason)

-- the answer to a replay whose schedule stands in a file of this name
abbrev pub AnswersReplay : List ℕ → Replay → TheAnswer → Type 0
AnswersReplay name replay answer = ((answer.status ≡ 0) × Completes replay answer.text) ⊎ ((answer.status ≡ 2) × TellsReason name replay answer.text)

-- the answer to the files that are named
abbrev pub AnswersFiles : Names → Unit {0} → Texts → TheAnswer → Type 0
AnswersFiles names all texts answer = AnswersAsSpelled (AnswersReplay names.schedule) (spelled names texts) answer
