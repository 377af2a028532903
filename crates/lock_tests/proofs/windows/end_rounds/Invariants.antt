use Rattle.lock_tests.specs.Rounds.{StaysSeated}
use Rattle.lock_tests.proofs.windows.end_rounds.Given as goal

abbrev pub invariant-loop : goal.invariant-loop
invariant-loop l = StaysSeated l.window l.fn.first l.first × StaysSeated l.window l.fn.second l.second
