use Rattle.std.proofs.Common.{◌≡◌, ℕ, ◌<◌, get_or, false}
use Rattle.rl_check.proofs.events.any_true.Given as goal

abbrev pub invariant-loop-test : goal.invariant-loop-test
invariant-loop-test l = (k : ℕ) → k < l.test-index → get_or l.tests k false ≡ false
