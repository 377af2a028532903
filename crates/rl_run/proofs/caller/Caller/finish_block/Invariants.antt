use Rattle.std.proofs.Common.{◌≡◌, []}
use Rattle.rl_run.specs.Callers.{IsCallerWith}
use Rattle.rl_run.proofs.caller.Caller.finish_block.Given as goal

abbrev pub invariant-loop : goal.invariant-loop
invariant-loop g l = IsCallerWith g.C.ShardCore.says l.fn.shards l.fn.self l.seat × (l.events.items ≡ [])
