-- Some good state of the lock has the rank's view.
use Rattle.rl_rank.specs.Running.{lock_at, good_at, tables, goods}
use Rattle.rl_rank.specs.laws.WholeOwes.{may_step}
use Rattle.rl_rank.proofs.guiding.WholeShardGuiding.urgency.Goals as goal

pub urgency-requires-clause-may : goal.urgency-requires-clause-may
urgency-requires-clause-may g c =
    may_step _ _ (lock_at (tables g.A.Algo.table g.W.Work.table) c.args.self.now) (good_at (goods g.A.Algo.good g.W.Work.good) c.args.self.now) (g.A.Algo.further c.args.self.now.algo) (g.A.Algo.layout c.args.self.now.algo) (record { lock = g.met.A.Algo.laws c.args.self.now.algo; work = g.met.W.Work.laws c.args.self.now.work })
    c.args.self.now.home c.args.view.now c.requires.0
