-- By the rule of cards, and by the laws of the lock.
use Rattle.rl_rank.specs.laws.Domains.{next_card_allowed, next_local_allowed}
use Rattle.rl_rank.specs.Running.{lock_at, good_at, tables, goods}
use Rattle.rl_rank.proofs.whole.domains.Goals as goal

pub returns-clause-cards : goal.returns-clause-cards
returns-clause-cards g c =
    let core = c.args.core.now in
    next_card_allowed _ _ (lock_at (tables g.A.Algo.table g.W.Work.table) core) (good_at (goods g.A.Algo.good g.W.Work.good) core) (g.A.Algo.further core.algo) (g.A.Algo.layout core.algo) (record { lock = g.met.A.Algo.laws core.algo; work = g.met.W.Work.laws core.work }) core.home

pub returns-clause-locals : goal.returns-clause-locals
returns-clause-locals g c =
    let core = c.args.core.now in
    next_local_allowed _ _ (lock_at (tables g.A.Algo.table g.W.Work.table) core) (good_at (goods g.A.Algo.good g.W.Work.good) core) (g.A.Algo.further core.algo) (g.A.Algo.layout core.algo) (record { lock = g.met.A.Algo.laws core.algo; work = g.met.W.Work.laws core.work }) core.home
