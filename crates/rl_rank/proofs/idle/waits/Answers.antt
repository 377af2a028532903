-- What the lock's plan asks follows from the rule.
use Rattle.rl_rank.specs.Running.{lock_at, good_at, tables, goods}
use Rattle.rl_rank.specs.laws.WholeOwes.{may_step}
use Rattle.rl_rank.proofs.idle.waits.Goals as goal

pub plan-requires : goal.plan-requires
plan-requires g c =
    let core = c.args.core.now in
    may_step _ _ (lock_at (tables g.A.Algo.table g.W.Work.table) core) (good_at (goods g.A.Algo.good g.W.Work.good) core) (g.A.Algo.further core.algo) (g.A.Algo.layout core.algo) (record { lock = g.met.A.Algo.laws core.algo; work = g.met.W.Work.laws core.work })
    core.home c.args.view.now c.requires.0
