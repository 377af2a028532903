-- A row tells its path.
use Rattle.std.proofs.Common.{◌∙◌, ◌≡◌, ◌<◌, length, slice_index_or, ap, arith}
use Rattle.rl_tree.specs.Elements.{how_many, path_row}
use Rattle.rl_tree.specs.laws.PathRows.{row_at}
use Rattle.rl_tree.proofs.CodeLaws.{length-upto, upto_at}
use Rattle.rl_tree.proofs.tree.Tree.element_at.Goals as goal

pub index-requires : goal.index-requires
index-requires c =
    let K = c.args.self.now.rooted in
    let many : length c.args.self.now.paths.items ≡ how_many K = ap length c.args.self.now.pathed ∙ length-upto (path_row K) (how_many K) in
    let there : c.args.leaf < how_many K = c.requires.there in
    omega arith

pub returns : goal.returns
returns c =
    let K = c.args.self.now.rooted in
    let low : c.args.level < 4 = let h = c.requires.low in omega arith in
    let row : c.index.result.now ≡ path_row K c.args.leaf =
    c.index.ensures ∙ ap (λ z. slice_index_or z c.args.leaf c.index.result.now) c.args.self.now.pathed ∙ upto_at (path_row K) (how_many K) c.args.leaf c.index.result.now c.requires.there in
    ap (λ z. slice_index_or z c.args.level 0) row ∙ row_at K c.args.leaf c.args.level 0 low
