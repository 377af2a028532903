-- Of the elements that are there only the root has no parent.
use Rattle.std.proofs.Common.{◌∙◌, ◌==◌, ap}
use Rattle.rl_tree.specs.Tree.{path}
use Rattle.rl_tree.specs.Elements.{tree_of}
use Rattle.rl_tree.specs.TreeShape.{levels_of}
use Rattle.rl_tree.specs.laws.PathRows.{root_alone}
use Rattle.rl_tree.proofs.tree.Tree.is_top.Goals as goal

pub returns : goal.returns
returns c =
    let K = c.args.self.now.rooted in
    ap (λ z. z == 0) c.element_at.ensures ∙ root_alone K (levels_of K.shape) c.args.self.now.laid c.args.self.now.parented (path (tree_of K) c.args.leaf c.args.level) c.requires.there
