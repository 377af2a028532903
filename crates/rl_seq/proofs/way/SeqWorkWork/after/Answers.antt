-- Some good state has the side and gives what was found, so the numbers fit.
use Rattle.rl_seq.specs.laws.CodeLaws.{may_turn}
use Rattle.rl_seq.specs.Place.{at_of}
use Rattle.rl_seq.proofs.way.SeqWorkWork.after.Goals as goal

pub turn-requires-clause-can : goal.turn-requires-clause-can
turn-requires-clause-can c =
    (may_turn (at_of c.args.self.now) c.args.self.now.home c.args.rank c.args.side.now c.args.got c.requires).1
