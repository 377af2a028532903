use Rattle.std.proofs.Common.{◌≡◌, drop}
use Rattle.rl_report.specs.Reading.{tallies_next}
use Rattle.rl_place.proofs.Fronts.{with_lines}
use Rattle.rl_report.proofs.sections.tallies_of.Given as goal

abbrev pub invariant-loop-queue : goal.invariant-loop-queue
invariant-loop-queue l = with_lines l.tallies.items (tallies_next (drop l.queue-index l.queues) l.lines) ≡ tallies_next l.queues l.fn.lines
