-- A schedule, and the schedule file.
use Rattle.std.specs.Prelude.{◌≡◌, ◌≢◌, ℕ, ◌≤◌, ◌<◌, List, [], ◌∷◌, map, sum_by, codes, decimal}
use Rattle.std.specs.List.{AllByRecursion}
use Rattle.rl_text.specs.Spelling.{text_of}
use Rattle.rl_ops.specs.declared.schedule.Turn.{Turn}
use Rattle.rl_ops.specs.declared.schedule.Turn.TheVariants.{Steps, Stop}
use Rattle.rl_ops.specs.declared.schedule.Schedule.{Schedule}
use Rattle.rl_ops.specs.declared.schedule.TheConstants.{MOST_STEPS}
use Rattle.rl_ops.specs.Body.{body_lines}

-- RANK COUNT, or stop RANK
abbrev pub turn_words : Turn → List (List ℕ)
turn_words (Steps rank count) = decimal rank ∷ decimal count ∷ []
turn_words (Stop rank) = codes "stop" ∷ decimal rank ∷ []

abbrev pub schedule_lines : Schedule → List (List (List ℕ))
schedule_lines schedule = (codes "rmalock-schedule" ∷ codes "1" ∷ []) ∷ body_lines (map turn_words schedule.turns)

-- the one spelling of a schedule
abbrev pub schedule_spelling : Schedule → List ℕ
schedule_spelling schedule = text_of (schedule_lines schedule)

-- the steps of a turn
abbrev pub steps_of : Turn → ℕ
steps_of (Steps rank count) = count
steps_of (Stop rank) = 0

-- the rank of a turn
abbrev pub rank_of : Turn → ℕ
rank_of (Steps rank count) = rank
rank_of (Stop rank) = rank

-- its rank is there
abbrev pub TurnFits : ℕ → Turn → Type 0
TurnFits ranks turn = rank_of turn < ranks

-- no turn after a stop names the rank that was stopped
abbrev pub StayStopped : List Turn → Type 0
StayStopped [] = Unit {0}
StayStopped (Steps rank count ∷ turns) = StayStopped turns
StayStopped (Stop rank ∷ turns) = AllByRecursion (λ turn. rank_of turn ≢ rank) turns × StayStopped turns

-- its turns are of ranks that are there, its steps not too many, and who is stopped stays so
pub record ScheduleFits (ranks : ℕ) (schedule : Schedule) : Type 0 where
  pub fit : AllByRecursion (TurnFits ranks) schedule.turns
  pub few : sum_by steps_of schedule.turns ≤ MOST_STEPS
  pub stopped : StayStopped schedule.turns

-- the text spells the schedule
abbrev pub SpellsSchedule : ℕ → Schedule → List ℕ → Type 0
SpellsSchedule ranks schedule text = ScheduleFits ranks schedule × (text ≡ schedule_spelling schedule)
