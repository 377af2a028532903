use Rattle.std.proofs.Common.{length, arith}
use Rattle.std.proofs.lemmas.List.{take_all}
use Rattle.rl_io.proofs.SinkLemmas.{Appends-kept_with}
use Rattle.rl_io.proofs.sinks.FixedSinkSink.write.Goals as goal

pub returns-clause-appends : goal.returns-clause-appends
returns-clause-appends c =
    rw (c.keep.ensures, take_all (length c.args.piece.now) c.args.piece.now (omega arith)) (Appends-kept_with c.args.self.now c.args.piece.now)
