use Rattle.rl_check.specs.Legal.{tests_on, tests_by}
use Rattle.rl_check.specs.Tests.{PassBelow}
use Rattle.rl_check.proofs.whole.check_one.Given as goal

abbrev pub invariant-loop-shard : goal.invariant-loop-shard
invariant-loop-shard l = PassBelow (tests_on l.place l.report) l.shard

abbrev pub invariant-loop-rank : goal.invariant-loop-rank
invariant-loop-rank l = PassBelow (tests_by l.ops l.report) l.rank
