use Rattle.lock_tests.specs.Rounds.{StaysSeated}
use Rattle.lock_tests.proofs.windows.first_difference.Given as goal

abbrev pub invariant-loop-number : goal.invariant-loop-number
invariant-loop-number l = StaysSeated l.window l.fn.first l.first × StaysSeated l.window l.fn.second l.second
