use Rattle.std.proofs.Common.{◌<◌, length, arith}
use Rattle.rl_place.specs.ShapeText.{node_words}
use Rattle.rl_place.proofs.Printing.{one_more}
use Rattle.rl_place.proofs.ShapePrinting.{lines-more}
use Rattle.rl_place.proofs.shape_printer.put_nodes.Goals as goal

pub loop-node-preserved : goal.loop-node-preserved
loop-node-preserved c =
    let within : c.loop-node.node < length c.args.nodes.now = omega (arith, c.loop-node-test.true, c.loop-node.auto.node-end) in
    one_more _ _ _ _ _ _ c.loop-node.invariant c.in_ok-put_node.ensures (lines-more node_words c.args.nodes.now c.loop-node.node _ within)
