use Rattle.std.proofs.Common.{◌≡◌, map, replicate, []}
use Rattle.rl_ops.proofs.by_rank.ByRank.with_capacity.Given as goal

abbrev pub invariant-loop : goal.invariant-loop
invariant-loop g l = map (λ v. v.items) l.lists.items ≡ replicate l.counter []
