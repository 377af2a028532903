-- A line of a calls file that is taken ahead of the reader's words.
use Rattle.std.specs.Prelude.{◌≡◌, ℕ, ◌+◌, ◌<◌, codes, false, ◌&&◌, length, Ok}
use Rattle.rl_text.specs.Rows.{Row, Left}
use Rattle.rl_text.specs.Reading.{begins, next_row}
use Rattle.rl_ops.specs.declared.calls_line.CallsVersion.{CallsVersion}
use Rattle.rl_ops.specs.declared.calls_line.CallsLine.{CallsLine}
use Rattle.rl_ops.specs.declared.progress.Progress.{Progress}
use Rattle.rl_ops.specs.OpsReading.{may_end, line_after}

-- the next line was taken, and it is this one, after those that were read
pub record IsNextLine (version : CallsVersion) (ranks shards : ℕ) (progress : Progress) (old new : Left) (line : CallsLine) : Type 0 where
  pub row : Row
  pub next : next_row old.read old.rows ≡ Ok (row, new.rows)
  pub goes_on : (may_end progress.expected && begins row (codes "end")) ≡ false
  pub same : line_after version ranks shards progress row ≡ Ok line
  pub read : new.read ≡ old.read + 1
  pub fewer : length new.rows < length old.rows
