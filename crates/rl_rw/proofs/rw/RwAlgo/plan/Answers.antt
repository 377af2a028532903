-- A view of a good state may plan, in the tree and at the counters.
use Rattle.std.proofs.Common.{sym, subst}
use Rattle.rl_tree.specs.TreeShape.{levels_of}
use Rattle.rl_tree.specs.laws.TreeLaid.{laid_shaped}
use Rattle.rl_counter.specs.Counter.{NamesCounters}
use Rattle.rl_rw.specs.Rw.{shared_of}
use Rattle.rl_rw.proofs.CodeLaws.{names_step, plans_step}
use Rattle.rl_rw.proofs.rw.RwAlgo.plan.Goals as goal

pub counter_plan-requires : goal.counter_plan-requires
counter_plan-requires c =
    let s = c.args.self.now in
    let v = c.args.view in
    subst (λ z. NamesCounters z v.counter.counter v.counter.doing) (sym s.counted)
    (names_step (shared_of s.tree.rooted s.counters.readers s.group) (levels_of s.tree.rooted.shape) (laid_shaped s.tree.rooted (levels_of s.tree.rooted.shape) s.tree.laid) s.limited s.few s.grouped v c.requires)

pub plan-requires : goal.plan-requires
plan-requires c =
    let s = c.args.self.now in
    plans_step (shared_of s.tree.rooted s.counters.readers s.group) (levels_of s.tree.rooted.shape) (laid_shaped s.tree.rooted (levels_of s.tree.rooted.shape) s.tree.laid) s.limited s.few s.grouped c.args.view c.requires
