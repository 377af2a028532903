-- One path more stands at the end.
use Rattle.std.proofs.Common.{◌∙◌}
use Rattle.rl_tree.specs.Elements.{path_row}
use Rattle.rl_tree.proofs.CodeLaws.{upto_next}
use Rattle.rl_tree.proofs.tree.paths_of.Goals as goal

pub loop-element-preserved : goal.loop-element-preserved
loop-element-preserved c =
    c.in_ok-push.ensures.items ∙ upto_next (path_row c.args.rooted.now) c.loop-element.element c.path.result c.loop-element.paths.items c.loop-element.invariant c.path.ensures
