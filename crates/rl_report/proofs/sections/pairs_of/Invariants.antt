use Rattle.std.proofs.Common.{◌≡◌, None, codes, length}
use Rattle.rl_report.specs.Reports.{pair_key}
use Rattle.rl_report.specs.Reading.{pair_at, lines_while}
use Rattle.rl_place.proofs.Fronts.{with_lines}
use Rattle.rl_report.proofs.sections.pairs_of.Given as goal

abbrev pub invariant-loop-last : goal.invariant-loop-last
invariant-loop-last l = with_lines l.pairs.items (lines_while (codes "pair") pair_at pair_key l.last l.lines.read l.lines.rows) ≡ lines_while (codes "pair") pair_at pair_key None l.fn.lines.read l.fn.lines.rows

abbrev pub decreases-loop-last : goal.decreases-loop-last
decreases-loop-last l = length l.lines.rows
