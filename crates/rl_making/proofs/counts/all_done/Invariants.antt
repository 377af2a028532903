use Rattle.std.proofs.Common.{◌≡◌, ◌≤◌, ◌*◌, ◌^◌, take}
use Rattle.rl_making.specs.Summary.{all_done}
use Rattle.rl_making.proofs.counts.all_done.Given as goal

-- those of the ranks so far
abbrev pub invariant-loop-rank : goal.invariant-loop-rank
invariant-loop-rank l = (l.all ≡ all_done (take l.rank-index l.done)) × (l.all ≤ l.rank-index * 2 ^ 32)
