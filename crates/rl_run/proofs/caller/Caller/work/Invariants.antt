use Rattle.std.proofs.Common.{◌≡◌}
use Rattle.rl_run.specs.Callers.{IsCaller, who}
use Rattle.rl_run.proofs.caller.Caller.work.Given as goal

abbrev pub invariant-loop : goal.invariant-loop
invariant-loop g l =
    (goal.iterator-loop g).can_next l.iterator' × (goal.iterator-loop g).is_finite l.iterator' × IsCaller g.C.ShardCore.says l.fn.shards l.self × (who l.self ≡ who l.fn.self)
