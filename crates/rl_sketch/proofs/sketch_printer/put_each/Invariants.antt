use Rattle.std.proofs.Common.{◌≡◌, ◌++◌, take, decimal}
use Rattle.std.specs.List.{flat_map}
use Rattle.rl_sketch.proofs.sketch_printer.put_each.Given as goal

abbrev pub invariant-loop-rank : goal.invariant-loop-rank
invariant-loop-rank l = l.out.items ≡ l.fn.out.items ++ flat_map (λ rank. l.before ++ decimal rank ++ l.behind) (take l.rank-index l.list)
