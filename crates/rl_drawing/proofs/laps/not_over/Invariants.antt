use Rattle.std.proofs.Common.{◌≡◌, not, filter, take}
use Rattle.rl_machine.specs.Running.{running}
use Rattle.rl_drawing.specs.Sights.{is_over}
use Rattle.rl_drawing.proofs.laps.not_over.Given as goal

abbrev pub invariant-loop-rank : goal.invariant-loop-rank
invariant-loop-rank g l = l.list.items ≡ filter (λ k. not (is_over (running g.C.ShardCore.says l.machine) k)) (take l.rank-index l.ranks)
