use Rattle.std.proofs.Common.{arith}
use Rattle.rl_text.proofs.ShortLaws.{writes-hundreds}
use Rattle.rl_text.proofs.writing.write_middle.Goals as goal

pub returns-clause-writes : goal.returns-clause-writes
returns-clause-writes c = writes-hundreds _ _ _ _ _ _ c.args.n (omega (arith, c.if-n-lt100.false)) (omega (arith, c.requires.small)) c.write_short-at.ensures.writes c.write_two_digits.ensures.writes
