use Rattle.std.proofs.Common.{◌≡◌, [], map, replicate, vec_items}
use Rattle.rl_run.proofs.opening.empty_rows.Given as goal

abbrev pub invariant-loop : goal.invariant-loop
invariant-loop g l = map vec_items l.rows.items ≡ replicate l.counter []
