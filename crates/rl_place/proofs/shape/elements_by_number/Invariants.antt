use Rattle.std.proofs.Common.{◌≡◌, take, map}
use Rattle.rl_place.specs.Shapes.{element_of}
use Rattle.rl_place.proofs.shape.elements_by_number.Given as goal

abbrev pub invariant-loop-name : goal.invariant-loop-name
invariant-loop-name l = l.elements.items ≡ map (element_of l.lock l.nodes l.names.keys) (take l.name-index l.names.keys)
