use Rattle.rl_seq.specs.Place.{at_of}
use Rattle.rl_seq.specs.laws.SeqLaws.{seq_laws}
use Rattle.rl_locks.proofs.ReaderLaws.{keeps_gets}
use Rattle.rl_locks.proofs.readers.WholeSeqWorkPromising.way_laws.Goals as goal

pub returns : goal.returns
returns g c = λ core m good.
    keeps_gets _ core.base (g.A.Algo.table core.algo) (at_of core.work) core.work.home (g.A.Algo.good core.algo) (g.A.Algo.further core.algo) (g.A.Algo.layout core.algo)
    (record { lock = g.met.A.Algo.laws core.algo; work = seq_laws (at_of core.work) core.work.home }) core.home m good
