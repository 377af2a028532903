-- A turn that is taken ahead of the reader's words.
use Rattle.std.specs.Prelude.{◌≡◌, ℕ, ◌+◌, ◌<◌, ◌≤◌, codes, false, length, Ok}
use Rattle.rl_text.specs.Rows.{Row, Left}
use Rattle.rl_text.specs.Reading.{begins, next_row}
use Rattle.rl_ops.specs.declared.schedule.Turn.{Turn}
use Rattle.rl_ops.specs.declared.schedule.TheConstants.{MOST_STEPS}
use Rattle.rl_ops.specs.Schedule.{steps_of}
use Rattle.rl_ops.specs.ScheduleReading.{Turned, turn_after}

-- the next line was taken, and it is this turn, after those that were read
pub record IsNextTurn (ranks : ℕ) (turned : Turned) (old new : Left) (turn : Turn) : Type 0 where
  pub row : Row
  pub next : next_row old.read old.rows ≡ Ok (row, new.rows)
  pub goes_on : begins row (codes "end") ≡ false
  pub same : turn_after ranks turned row ≡ Ok turn
  pub read : new.read ≡ old.read + 1
  pub fewer : length new.rows < length old.rows
  pub few : turned.steps + steps_of turn ≤ MOST_STEPS
