use Rattle.std.proofs.Common.{◌≡◌, take, map}
use Rattle.rl_place.specs.Shapes.{number_in}
use Rattle.rl_place.proofs.names.numbers_of.Given as goal

abbrev pub invariant-loop-path : goal.invariant-loop-path
invariant-loop-path l = l.numbers.items ≡ map (number_in l.seen.keys) (take l.path-index l.paths)
