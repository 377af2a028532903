use Rattle.lock_tests.specs.Rounds.{StaysSeated}
use Rattle.lock_tests.proofs.windows.go_round.Given as goal

abbrev pub invariant-loop : goal.invariant-loop
invariant-loop l = StaysSeated l.window l.fn.seat l.seat
