-- A good state with these words has the rank's side of the work.
use Rattle.rl_rank.specs.Running.{lock_at, good_at, tables, goods}
use Rattle.rl_rank.specs.laws.WholeOwes.{may_see}
use Rattle.rl_rank.proofs.wall.WholeShardCore.transcript.Goals as goal

pub transcript-requires-clause-seen : goal.transcript-requires-clause-seen
transcript-requires-clause-seen g c =
    let core = c.args.self.now in
    let seen = c.requires.seen in
    may_see _ _ (lock_at (tables g.A.Algo.table g.W.Work.table) core) (good_at (goods g.A.Algo.good g.W.Work.good) core) (g.A.Algo.further core.algo) (g.A.Algo.layout core.algo) (record { lock = g.met.A.Algo.laws core.algo; work = g.met.W.Work.laws core.work }) core.home
    c.args.view.now c.args.words.now c.args.rank seen.0 seen.1.0 seen.1.1
