use Rattle.rl_check.specs.Tests.{PassBelow}
use Rattle.rl_check.specs.Threads.{answer_test}
use Rattle.rl_check.proofs.threads.first.Given as goal

abbrev pub invariant-loop-place : goal.invariant-loop-place
invariant-loop-place l = PassBelow (answer_test l.all) l.place
