-- The rule of the window has the rule of the core.
use Rattle.rl_combine.specs.Posts.{node_in}
use Rattle.rl_combine.specs.laws.WayLaws.{combine_works}
use Rattle.rl_shard.specs.Shards.{core_at}
use Rattle.rl_shard.specs.Counting.{whole_moment}
use Rattle.rl_locks.proofs.CombinerLaws.{keeps_combining}
use Rattle.rl_locks.proofs.combiners.combiners_of_shard.Goals as goal

pub returns : goal.returns
returns g c = λ h vs rule.
    let core = core_at c.args.shard.now in
    keeps_combining _ core.base (g.A.Algo.table core.algo) core.work.here (node_in core.work) (g.A.Algo.good core.algo) (g.A.Algo.further core.algo) (g.A.Algo.layout core.algo)
    (record { lock = g.met.A.Algo.laws core.algo; work = combine_works core.work.here (node_in core.work) }) core.home (whole_moment h vs rule.trace rule.acts) rule.is_good
