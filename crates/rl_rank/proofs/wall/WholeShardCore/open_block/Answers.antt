-- Where no block is open there is no next atom.
use Rattle.rl_rank.specs.Running.{lock_at, good_at, tables, goods}
use Rattle.rl_rank.specs.laws.OpenLaws.{shut_is_none}
use Rattle.rl_rank.proofs.wall.WholeShardCore.open_block.Goals as goal

pub ask_for-requires-clause-closed : goal.ask_for-requires-clause-closed
ask_for-requires-clause-closed g c =
    let core = c.args.self.now in
    shut_is_none _ _ (lock_at (tables g.A.Algo.table g.W.Work.table) core) (good_at (goods g.A.Algo.good g.W.Work.good) core) (g.A.Algo.further core.algo) (g.A.Algo.layout core.algo) (record { lock = g.met.A.Algo.laws core.algo; work = g.met.W.Work.laws core.work }) core.home c.args.view.now c.requires.possible c.requires.closed
