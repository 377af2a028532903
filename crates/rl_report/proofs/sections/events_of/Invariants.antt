use Rattle.std.proofs.Common.{◌≡◌, codes, length}
use Rattle.rl_report.specs.Reports.{step_of}
use Rattle.rl_report.specs.Reading.{event_at, lines_while}
use Rattle.rl_place.proofs.Fronts.{with_lines}
use Rattle.rl_report.proofs.sections.events_of.Given as goal

abbrev pub invariant-loop-lines : goal.invariant-loop-lines
invariant-loop-lines l =
    with_lines l.events.items (lines_while (codes "event") (event_at l.naming) step_of l.least l.lines.read l.lines.rows)
    ≡ lines_while (codes "event") (event_at l.naming) step_of 0 l.fn.lines.read l.fn.lines.rows

abbrev pub decreases-loop-lines : goal.decreases-loop-lines
decreases-loop-lines l = length l.lines.rows
