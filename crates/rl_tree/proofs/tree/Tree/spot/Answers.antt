-- The spot of a word stands at its number.
use Rattle.std.proofs.Common.{◌∙◌, ◌≡◌, length, slice_index_or, ap, arith}
use Rattle.rl_tree.specs.Elements.{of_tree, tree_spot}
use Rattle.rl_tree.proofs.CodeLaws.{length-upto, upto_at}
use Rattle.rl_tree.proofs.tree.Tree.spot.Goals as goal

pub index-requires : goal.index-requires
index-requires c =
    let K = c.args.self.now.rooted in
    let many : length c.args.self.now.spots.items ≡ of_tree K = ap length c.args.self.now.placed ∙ length-upto (tree_spot K) (of_tree K) in
    omega arith

pub returns : goal.returns
returns c =
    let K = c.args.self.now.rooted in
    c.index.ensures ∙ ap (λ z. slice_index_or z c.args.word c.index.result.now) c.args.self.now.placed ∙ upto_at (tree_spot K) (of_tree K) c.args.word c.index.result.now c.requires
