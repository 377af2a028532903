use Rattle.std.proofs.Common.{◌≡◌, ◌≤◌, length}
use Rattle.rl_place.specs.declared.limits.TheConstants.{MOST_RANKS}
use Rattle.rl_place.specs.Reading.{ranks_from}
use Rattle.rl_place.proofs.Fronts.{with_lines}
use Rattle.rl_place.proofs.sections.ranks_of.Given as goal

abbrev pub invariant-loop-paths : goal.invariant-loop-paths
invariant-loop-paths l = record {
  few : length l.paths.items ≤ MOST_RANKS;
  so_far : with_lines l.paths.items (ranks_from l.levels (length l.paths.items) l.lines.read l.lines.rows) ≡ ranks_from l.levels 0 l.fn.lines.read l.fn.lines.rows;
}

abbrev pub decreases-loop-paths : goal.decreases-loop-paths
decreases-loop-paths l = length l.lines.rows
