use Rattle.std.proofs.Common.{◌≡◌, drop}
use Rattle.rl_step.specs.LockQueues.{stands}
use Rattle.rl_check.proofs.queues.stands.Given as goal

abbrev pub invariant-loop-other : goal.invariant-loop-other
invariant-loop-other l = stands l.numbers l.number ≡ stands (drop l.other-index l.numbers) l.number
