use Rattle.std.proofs.Common.{◌≡◌, take}
use Rattle.rl_work.proofs.work.set_calls.Given as goal

abbrev pub invariant-loop-call : goal.invariant-loop-call
invariant-loop-call l = l.calls.items ≡ take l.call-index l.list
