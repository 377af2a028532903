use Rattle.std.proofs.Common.{◌≡◌, length}
use Rattle.rl_ops.specs.Body.{gathered}
use Rattle.rl_ops.specs.ScheduleReading.{turns_at, no_turn, with_turn}
use Rattle.rl_ops.proofs.schedule_reader.turns_of.Given as goal

abbrev pub invariant-loop-turn : goal.invariant-loop-turn
invariant-loop-turn l = gathered with_turn l.turns (turns_at l.ranks l.so_far l.lines.read l.lines.rows) ≡ turns_at l.ranks no_turn l.fn.lines.read l.fn.lines.rows

abbrev pub decreases-loop-turn : goal.decreases-loop-turn
decreases-loop-turn l = length l.lines.rows
