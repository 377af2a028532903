-- Each shard of the machine meets the rule of its core.
use Rattle.std.proofs.Common.{count_by, sym, subst}
use Rattle.rl_combine.specs.Posts.{node_in}
use Rattle.rl_machine.specs.Running.{cores_of, moment_of}
use Rattle.rl_rank.specs.Whole.{counts}
use Rattle.rl_combine.specs.laws.WayLaws.{combine_works}
use Rattle.rl_locks.specs.Combining.{KeepsCombining}
use Rattle.rl_locks.proofs.CombinerLaws.{L, keeps_combining, goes_on_found, left_at, in_call}
use Rattle.rl_locks.proofs.SweepLaws.{stores_first}
use Rattle.rl_locks.proofs.combiners.combiners_of_machine.Goals as goal

pub returns-clause-now : goal.returns-clause-now
returns-clause-now g c = λ s S has.
    let q = c.rules.ensures.now.shards s S has in
    let core = q.core in
    subst (λ z. KeepsCombining z S.held S.views) (sym q.is.table_is)
    (keeps_combining _ core.base (g.A.Algo.table core.algo) core.work.here (node_in core.work) (g.A.Algo.good core.algo) (g.A.Algo.further core.algo) (g.A.Algo.layout core.algo)
    (record { lock = g.met.A.Algo.laws core.algo; work = combine_works core.work.here (node_in core.work) }) core.home (moment_of S q.acts) q.is.is_good)

pub returns-clause-stays : goal.returns-clause-stays
returns-clause-stays g c = λ ks there s S has.
    let q = (c.rules.ensures.stays ks there).shards s S has in
    let core = q.core in
    subst (λ z. KeepsCombining z S.held S.views) (sym q.is.table_is)
    (keeps_combining _ core.base (g.A.Algo.table core.algo) core.work.here (node_in core.work) (g.A.Algo.good core.algo) (g.A.Algo.further core.algo) (g.A.Algo.layout core.algo)
    (record { lock = g.met.A.Algo.laws core.algo; work = combine_works core.work.here (node_in core.work) }) core.home (moment_of S q.acts) q.is.is_good)

pub returns-clause-sweeps : goal.returns-clause-sweeps
returns-clause-sweeps g c =
    stores_first _ _ (cores_of c.args.machine.now)
    _
    (λ core m q.
    goes_on_found _ core.base (g.A.Algo.table core.algo) core.work.here (node_in core.work) (g.A.Algo.good core.algo) (g.A.Algo.further core.algo) (g.A.Algo.layout core.algo)
    (record { lock = g.met.A.Algo.laws core.algo; work = combine_works core.work.here (node_in core.work) }) core.home m q)
    (λ core x owner e. in_call _ core.base (g.A.Algo.table core.algo) core.work.here (node_in core.work) (g.A.Algo.good core.algo) core.home x owner e)
    (λ core. count_by (counts (L _ core.base (g.A.Algo.table core.algo) core.work.here (node_in core.work) (g.A.Algo.good core.algo))))
    (λ core m r x q.
    left_at _ core.base (g.A.Algo.table core.algo) core.work.here (node_in core.work) (g.A.Algo.good core.algo) (g.A.Algo.further core.algo) (g.A.Algo.layout core.algo)
    (record { lock = g.met.A.Algo.laws core.algo; work = combine_works core.work.here (node_in core.work) }) core.home m q.is_good r x q.has)
    _ c.rules.ensures.stays
