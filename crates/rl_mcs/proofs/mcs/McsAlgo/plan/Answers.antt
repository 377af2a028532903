-- A view of a good state may plan.
use Rattle.rl_tree.specs.TreeShape.{levels_of}
use Rattle.rl_tree.specs.laws.TreeLaid.{laid_shaped}
use Rattle.rl_mcs.proofs.CodeLaws.{plans}
use Rattle.rl_mcs.proofs.mcs.McsAlgo.plan.Goals as goal

pub plan-requires : goal.plan-requires
plan-requires c =
    let t = c.args.self.now.tree in
    plans t.rooted (levels_of t.rooted.shape) (laid_shaped t.rooted (levels_of t.rooted.shape) t.laid) c.args.self.now.unlimited c.args.view c.requires
