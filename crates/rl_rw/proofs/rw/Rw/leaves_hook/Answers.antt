-- What the tree goes on with stands so in the whole view.
use Rattle.std.proofs.Common.{◌∙◌, ap, sym, false}
use Rattle.rl_tree.specs.Tree.{resume_by}
use Rattle.rl_tree.specs.Elements.{tree_of}
use Rattle.rl_rw.specs.Rw.{from_tree}
use Rattle.rl_rw.proofs.rw.Rw.leaves_hook.Goals as goal

pub returns : goal.returns
returns c =
    let v = c.args.view.now in
    c.within_tree.ensures false ∙ ap (from_tree v false) (sym c.resume.ensures ∙ ap (resume_by (tree_of c.args.self.now.tree.rooted) v.tree v.tree.phase) c.requires.none)
