-- Where no call is open the rank is out, so that it may ask.
use Rattle.rl_rank.specs.Running.{lock_at, good_at, tables, goods}
use Rattle.rl_rank.specs.laws.OpenLaws.{closed_is_out}
use Rattle.rl_rank.proofs.whole.Whole.ask_for.Goals as goal

pub ask-view-requires : goal.ask-view-requires
ask-view-requires g c =
    closed_is_out _ _ (lock_at (tables g.A.Algo.table g.W.Work.table) c.args.self.now) (good_at (goods g.A.Algo.good g.W.Work.good) c.args.self.now) (g.A.Algo.further c.args.self.now.algo) (g.A.Algo.layout c.args.self.now.algo) (record { lock = g.met.A.Algo.laws c.args.self.now.algo; work = g.met.W.Work.laws c.args.self.now.work })
    c.args.self.now.home c.args.view.now c.requires.possible c.requires.closed
