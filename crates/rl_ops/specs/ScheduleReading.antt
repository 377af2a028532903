-- Reading a schedule file, with its first fault.
use Rattle.std.specs.Prelude.{◌≡◌, ℕ, ◌+◌, ◌-◌, ◌^◌, ◌<◌, ◌==◌, List, [], ◌∷◌, ◌++◌, codes, Bool, true, not, Option, Result, Ok, if◌then◌else◌}
use Rattle.std.specs.List.{list_any}
use Rattle.rl_text.specs.declared.causes.Refusal.{Refusal}
use Rattle.rl_text.specs.declared.causes.Why.TheVariants.{Repeat, Order}
use Rattle.rl_text.specs.Rows.{Row, rows_from}
use Rattle.rl_text.specs.Reading.{◌>>=◌, fault_of, below_at, no_word_at, begins, next_row, header_at}
use Rattle.rl_ops.specs.declared.schedule.Turn.{Turn}
use Rattle.rl_ops.specs.declared.schedule.Turn.TheVariants.{Steps, Stop}
use Rattle.rl_ops.specs.declared.schedule.Schedule.{Schedule}
use Rattle.rl_ops.specs.declared.schedule.TheConstants.{MOST_STEPS}
use Rattle.rl_ops.specs.Body.{passed_at, Items, body_at}
use Rattle.rl_ops.specs.Schedule.{ScheduleFits}

-- the steps of the turns that were read, and the ranks that they stopped
pub record Turned : Type 0 where
  pub steps : ℕ
  pub stopped : List ℕ

abbrev pub is_stopped : List ℕ → ℕ → Bool
is_stopped stopped rank = list_any (λ other. other == rank) stopped

-- RANK COUNT, of a rank that isn't stopped
unfoldable pub steps_at : ℕ → Turned → Row → Result Turn Refusal
steps_at ranks turned row = do
  rank ← below_at row 1 ranks
  goes_on ← passed_at row 1 Order (not (is_stopped turned.stopped rank))
  count ← below_at row 2 (MOST_STEPS + 1 - turned.steps)
  alone ← no_word_at row 3
  Ok (Steps rank count)

-- stop RANK, of a rank that isn't stopped
unfoldable pub stop_at : ℕ → Turned → Row → Result Turn Refusal
stop_at ranks turned row = do
  rank ← below_at row 2 ranks
  goes_on ← passed_at row 2 Repeat (not (is_stopped turned.stopped rank))
  alone ← no_word_at row 3
  Ok (Stop rank)

-- a turn after those that were read
unfoldable pub turn_after : ℕ → Turned → Row → Result Turn Refusal
turn_after ranks turned row = if begins row (codes "stop") then stop_at ranks turned row else steps_at ranks turned row

abbrev pub after_turn : Turned → Turn → Turned
after_turn turned (Steps rank count) = record { steps = turned.steps + count; stopped = turned.stopped }
after_turn turned (Stop rank) = record { steps = turned.steps; stopped = turned.stopped ++ rank ∷ [] }

abbrev pub turn_items : ℕ → Items Turned Turn
turn_items ranks = record { item = turn_after ranks; next = after_turn; may_end = λ turned. true }

abbrev pub no_turn : Turned
no_turn = record { steps = 0; stopped = [] }

-- one more turn
abbrev pub with_turn : List Turn → Turn → List Turn
with_turn turns turn = turns ++ turn ∷ []

-- all turns, from a line on
abbrev pub turns_at : ℕ → Turned → ℕ → List Row → Result (List Turn) Refusal
turns_at ranks turned read rows = body_at (turn_items ranks) turned read rows

-- the schedule that a text spells, or its first fault
unfoldable pub schedule_at : ℕ → List ℕ → Result Schedule Refusal
schedule_at ranks text = do
  first ← next_row 0 (rows_from 1 text)
  header ← header_at first.0 (codes "rmalock-schedule")
  turns ← turns_at ranks no_turn 1 first.1
  Ok (record { turns = turns })

-- the first fault of a text
abbrev pub schedule_fault : ℕ → List ℕ → Option Refusal
schedule_fault ranks text = fault_of (schedule_at ranks text)

-- the text is read as this schedule, by all numbers of ranks that it fits
abbrev pub IsReadAsSchedule : List ℕ → Schedule → Type 0
IsReadAsSchedule text schedule = (ranks : ℕ) → ranks < 2 ^ 32 → ScheduleFits ranks schedule → schedule_at ranks text ≡ Ok schedule
