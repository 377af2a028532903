-- One queue more stands at the end.
use Rattle.std.proofs.Common.{◌∙◌}
use Rattle.rl_tree.specs.Elements.{names_by}
use Rattle.rl_tree.proofs.CodeLaws.{upto_next}
use Rattle.rl_tree.proofs.tree.names_for_all.Goals as goal

pub loop-element-preserved : goal.loop-element-preserved
loop-element-preserved c =
    c.in_ok-push.ensures.items ∙ upto_next (names_by c.args.shape.now c.args.root) c.loop-element.element c.in_ok-names_for.field-0 c.loop-element.queues.items c.loop-element.invariant c.in_ok-names_for.ensures
