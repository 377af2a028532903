-- One spot more stands at the end.
use Rattle.std.proofs.Common.{◌∙◌}
use Rattle.rl_tree.specs.Elements.{tree_spot}
use Rattle.rl_tree.proofs.CodeLaws.{upto_next}
use Rattle.rl_tree.proofs.tree.spots_of.Goals as goal

pub loop-word-preserved : goal.loop-word-preserved
loop-word-preserved c =
    c.in_ok-push.ensures.items ∙ upto_next (tree_spot c.args.rooted.now) c.loop-word.word c.spot.result c.loop-word.spots.items c.loop-word.invariant c.spot.ensures
