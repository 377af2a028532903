use Rattle.std.proofs.Common.{◌≡◌, ◌++◌, take}
use Rattle.rl_text.specs.Spelling.{text_of}
use Rattle.rl_place.specs.ShapeText.{node_lines}
use Rattle.rl_place.proofs.shape_printer.put_nodes.Given as goal

abbrev pub invariant-loop-node : goal.invariant-loop-node
invariant-loop-node l = l.out.items ≡ l.fn.out.items ++ text_of (node_lines (take l.node l.nodes))
