-- Each shard of the machine meets the rule of its core.
use Rattle.std.proofs.Common.{sym, subst}
use Rattle.rl_work.specs.laws.LockedLaws.{locked_laws}
use Rattle.rl_site.specs.Site.{Site}
use Rattle.rl_machine.specs.Running.{moment_of}
use Rattle.rl_locks.specs.Holding.{KeepsReads}
use Rattle.rl_locks.proofs.HolderLaws.{keeps_reads}
use Rattle.rl_locks.proofs.holders.holders_of_machine.Goals as goal

pub returns-clause-now : goal.returns-clause-now
returns-clause-now g c = λ s S has.
    let q = c.rules.ensures.now.shards s S has in
    let core = q.core in
    let site : Site = record { geom = core.work.geom; shard = core.work.shard; rooms = core.work.rooms.items } in
    subst (λ z. KeepsReads z S.held S.views) (sym q.is.table_is)
    (keeps_reads _ core.base (g.A.Algo.table core.algo) site core.work.behind (g.A.Algo.good core.algo) (g.A.Algo.further core.algo) (g.A.Algo.layout core.algo)
    (record { lock = g.met.A.Algo.laws core.algo; work = locked_laws site core.work.behind }) core.home (moment_of S q.acts) q.is.is_good)

pub returns-clause-stays : goal.returns-clause-stays
returns-clause-stays g c = λ ks there s S has.
    let q = (c.rules.ensures.stays ks there).shards s S has in
    let core = q.core in
    let site : Site = record { geom = core.work.geom; shard = core.work.shard; rooms = core.work.rooms.items } in
    subst (λ z. KeepsReads z S.held S.views) (sym q.is.table_is)
    (keeps_reads _ core.base (g.A.Algo.table core.algo) site core.work.behind (g.A.Algo.good core.algo) (g.A.Algo.further core.algo) (g.A.Algo.layout core.algo)
    (record { lock = g.met.A.Algo.laws core.algo; work = locked_laws site core.work.behind }) core.home (moment_of S q.acts) q.is.is_good)
