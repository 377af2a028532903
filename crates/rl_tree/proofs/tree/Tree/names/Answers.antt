-- The words of a queue stand at its number.
use Rattle.std.proofs.Common.{◌∙◌, ◌≡◌, length, slice_index_or, ap, arith}
use Rattle.rl_tree.specs.Elements.{how_many, names_by}
use Rattle.rl_tree.proofs.CodeLaws.{length-upto, upto_at}
use Rattle.rl_tree.proofs.tree.Tree.names.Goals as goal

pub index-requires : goal.index-requires
index-requires c =
    let K = c.args.self.now.rooted in
    let many : length c.args.self.now.queues.items ≡ how_many K = ap length c.args.self.now.named ∙ length-upto (names_by K.shape K.root) (how_many K) in
    omega arith

pub returns : goal.returns
returns c =
    let K = c.args.self.now.rooted in
    c.index.ensures ∙ ap (λ z. slice_index_or z c.args.element c.index.result.now) c.args.self.now.named ∙ upto_at (names_by K.shape K.root) (how_many K) c.args.element c.index.result.now c.requires
