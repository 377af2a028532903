-- The list of the nodes' elements has it.
use Rattle.std.proofs.Common.{◌∙◌, ◌==◌, ap}
use Rattle.std.specs.List.{list_any}
use Rattle.rl_tree.proofs.CodeLaws.{any_stands}
use Rattle.rl_tree.proofs.tree.is_node.Goals as goal

pub returns : goal.returns
returns c =
    c.contains.ensures.value ∙ ap (list_any (λ y. y == c.args.element)) (c.deref.ensures.value ∙ ap (λ z. z.leaf_of) c.shape.view_is) ∙ any_stands c.args.shape.now.leaf_of c.args.element
