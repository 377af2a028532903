use Rattle.std.proofs.Common.{◌≡◌, ◌-◌}
use Rattle.rl_report.specs.Reading.{entries_next}
use Rattle.rl_place.proofs.Fronts.{with_lines}
use Rattle.rl_report.proofs.sections.entries_of.Given as goal

abbrev pub invariant-loop : goal.invariant-loop
invariant-loop l = with_lines l.entries.items (entries_next l.naming l.version l.shard (l.count - l.counter) l.lines) ≡ entries_next l.naming l.version l.shard l.count l.fn.lines
