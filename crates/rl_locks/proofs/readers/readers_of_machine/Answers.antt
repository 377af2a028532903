-- Each shard of the machine meets the rule of its core.
use Rattle.std.proofs.Common.{sym, subst}
use Rattle.rl_seq.specs.Place.{at_of}
use Rattle.rl_seq.specs.laws.SeqLaws.{seq_laws}
use Rattle.rl_machine.specs.Running.{moment_of}
use Rattle.rl_locks.specs.Optimistic.{KeepsGets}
use Rattle.rl_locks.proofs.ReaderLaws.{keeps_gets}
use Rattle.rl_locks.proofs.readers.readers_of_machine.Goals as goal

pub returns-clause-now : goal.returns-clause-now
returns-clause-now g c = λ s S has.
    let q = c.rules.ensures.now.shards s S has in
    let core = q.core in
    subst (λ z. KeepsGets z S.held S.views) (sym q.is.table_is)
    (keeps_gets _ core.base (g.A.Algo.table core.algo) (at_of core.work) core.work.home (g.A.Algo.good core.algo) (g.A.Algo.further core.algo) (g.A.Algo.layout core.algo)
    (record { lock = g.met.A.Algo.laws core.algo; work = seq_laws (at_of core.work) core.work.home }) core.home (moment_of S q.acts) q.is.is_good)

pub returns-clause-stays : goal.returns-clause-stays
returns-clause-stays g c = λ ks there s S has.
    let q = (c.rules.ensures.stays ks there).shards s S has in
    let core = q.core in
    subst (λ z. KeepsGets z S.held S.views) (sym q.is.table_is)
    (keeps_gets _ core.base (g.A.Algo.table core.algo) (at_of core.work) core.work.home (g.A.Algo.good core.algo) (g.A.Algo.further core.algo) (g.A.Algo.layout core.algo)
    (record { lock = g.met.A.Algo.laws core.algo; work = seq_laws (at_of core.work) core.work.home }) core.home (moment_of S q.acts) q.is.is_good)
