use Rattle.std.proofs.Common.{◌≤◌}
use Rattle.table_tests.proofs.volumes.cells.Given as goal

abbrev pub invariant-loop : goal.invariant-loop
invariant-loop l = l.count ≤ l.counter
