use Rattle.std.proofs.Common.{◌≡◌, ◌-◌}
use Rattle.rl_report.specs.Reading.{dones_next}
use Rattle.rl_place.proofs.Fronts.{with_lines}
use Rattle.rl_report.proofs.reader.dones_of.Given as goal

abbrev pub invariant-loop-rank : goal.invariant-loop-rank
invariant-loop-rank l = with_lines l.dones.items (dones_next l.rank (l.ranks - l.rank) l.lines) ≡ dones_next 0 l.ranks l.fn.lines
