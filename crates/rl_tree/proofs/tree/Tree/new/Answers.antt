-- A proper shape is laid as the tree asks; it has at most four elements for each rank.
use Rattle.std.proofs.Common.{◌∙◌, ◌*◌, ◌≤◌, length, ap, sym, subst, arith}
use Rattle.rl_tree.specs.Elements.{all_names}
use Rattle.rl_tree.specs.TreeShape.{IsParented, IsTreeLaid, levels_of}
use Rattle.rl_tree.proofs.tree.Tree.new.Goals as goal
use Rattle.rl_tree.specs.laws.TreeLaid.{proper_laid, proper_parented}

pub names_for_all-requires-clause-elements : goal.names_for_all-requires-clause-elements
names_for_all-requires-clause-elements c =
    let d = proper_laid (record { home = c.args.home; shape = c.args.shape.now; root = c.args.root }) c.requires.proper c.requires.homed c.requires.budgeted c.requires.modest in
    let few : length c.args.shape.now.elements ≤ length c.args.shape.now.node_of * 4 = d.few in
    let ranks : length c.args.shape.now.node_of ≤ 32 = d.ranks in
    omega arith

pub spots_of-requires : goal.spots_of-requires
spots_of-requires c =
    subst (λ z. IsTreeLaid (record { home = c.args.home; shape = z; root = c.args.root }) (levels_of z)) (sym c.in_ok-copy.ensures)
    (proper_laid (record { home = c.args.home; shape = c.args.shape.now; root = c.args.root }) c.requires.proper c.requires.homed c.requires.budgeted c.requires.modest)

pub paths_of-requires : goal.paths_of-requires
paths_of-requires c =
    let d = proper_laid (record { home = c.args.home; shape = c.args.shape.now; root = c.args.root }) c.requires.proper c.requires.homed c.requires.budgeted c.requires.modest in
    let few : length c.args.shape.now.elements ≤ length c.args.shape.now.node_of * 4 = d.few in
    let ranks : length c.args.shape.now.node_of ≤ 32 = d.ranks in
    let many : length c.args.shape.now.elements ≤ 128 = omega arith in
    subst (λ z. length z.elements ≤ 128) (sym c.in_ok-copy.ensures) many

pub invariant_of-result : goal.invariant_of-result
invariant_of-result c =
    record {
      laid = subst (λ z. IsTreeLaid (record { home = c.args.home; shape = z; root = c.args.root }) (levels_of z)) (sym c.in_ok-copy.ensures)
          (proper_laid (record { home = c.args.home; shape = c.args.shape.now; root = c.args.root }) c.requires.proper c.requires.homed c.requires.budgeted c.requires.modest);
      named = c.in_ok-queues.ensures ∙ ap (λ z. all_names z c.args.root) (sym c.in_ok-copy.ensures);
      placed = c.in_ok-spots.ensures;
      pathed = c.in_ok-paths.ensures;
      parented = subst (λ z. IsParented (record { home = c.args.home; shape = z; root = c.args.root })) (sym c.in_ok-copy.ensures) (proper_parented (record { home = c.args.home; shape = c.args.shape.now; root = c.args.root }) c.requires.proper);
    }
