-- Some good state has the side, so its numbers fit.
use Rattle.rl_seq.specs.laws.CodeLaws.{may_name}
use Rattle.rl_seq.specs.Place.{at_of}
use Rattle.rl_seq.proofs.way.SeqWorkWork.next.Goals as goal

pub atom-requires-clause-can : goal.atom-requires-clause-can
atom-requires-clause-can c =
    (may_name (at_of c.args.self.now) c.args.self.now.home c.args._rank c.args.side.now c.requires).1
