use Rattle.rl_work.specs.laws.LockedLaws.{locked_laws}
use Rattle.rl_site.specs.Site.{Site}
use Rattle.rl_locks.proofs.HolderLaws.{keeps_reads}
use Rattle.rl_locks.proofs.holders.WholeLockedWorkPromising.way_laws.Goals as goal

pub returns : goal.returns
returns g c = λ core m good.
    let site : Site = record { geom = core.work.geom; shard = core.work.shard; rooms = core.work.rooms.items } in
    keeps_reads _ core.base (g.A.Algo.table core.algo) site core.work.behind (g.A.Algo.good core.algo) (g.A.Algo.further core.algo) (g.A.Algo.layout core.algo)
    (record { lock = g.met.A.Algo.laws core.algo; work = locked_laws site core.work.behind }) core.home m good
