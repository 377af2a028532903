use Rattle.std.proofs.Common.{◌≡◌}
use Rattle.rl_sketch.specs.Sketch.{going}
use Rattle.rl_sketch.proofs.ranks_reader.going.Given as goal

abbrev pub invariant-loop-rank : goal.invariant-loop-rank
invariant-loop-rank l = l.list.items ≡ going l.rank l.stopped
