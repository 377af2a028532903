-- There is a spot for each word.
use Rattle.std.proofs.Common.{◌≡◌, ◌∙◌, ◌≤◌, ◌*◌, length, ap, arith, rules}
use Rattle.std.specs.Vec.{vec_len}
use Rattle.rl_tree.specs.Elements.{of_tree, how_many, ranks_in, tree_spot}
use Rattle.rl_tree.proofs.CodeLaws.{length-upto}
use Rattle.rl_tree.proofs.tree.Tree.words.Goals as goal

pub overflow_cast-result : goal.overflow_cast-result
overflow_cast-result c =
    let K = c.args.self.now.rooted in
    let long : vec_len c.args.self.now.spots ≡ length c.args.self.now.spots.items = search rules in
    let many : length c.args.self.now.spots.items ≡ of_tree K = ap length c.args.self.now.placed ∙ length-upto (tree_spot K) (of_tree K) in
    let is : c.len.result ≡ vec_len c.args.self.now.spots = c.len.ensures in
    let few : how_many K ≤ ranks_in K * 4 = c.args.self.now.laid.few in
    let ranks : ranks_in K ≤ 32 = c.args.self.now.laid.ranks in
    omega arith

pub returns : goal.returns
returns c =
    let K = c.args.self.now.rooted in
    let long : vec_len c.args.self.now.spots ≡ length c.args.self.now.spots.items = search rules in
    c.len.ensures ∙ long ∙ ap length c.args.self.now.placed ∙ length-upto (tree_spot K) (of_tree K)
