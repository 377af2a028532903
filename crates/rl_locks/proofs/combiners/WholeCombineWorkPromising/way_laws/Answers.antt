use Rattle.rl_combine.specs.Posts.{node_in}
use Rattle.rl_combine.specs.laws.WayLaws.{combine_works}
use Rattle.rl_locks.proofs.CombinerLaws.{keeps_combining}
use Rattle.rl_locks.proofs.combiners.WholeCombineWorkPromising.way_laws.Goals as goal

pub returns : goal.returns
returns g c = λ core m good.
    keeps_combining _ core.base (g.A.Algo.table core.algo) core.work.here (node_in core.work) (g.A.Algo.good core.algo) (g.A.Algo.further core.algo) (g.A.Algo.layout core.algo)
    (record { lock = g.met.A.Algo.laws core.algo; work = combine_works core.work.here (node_in core.work) }) core.home m good
