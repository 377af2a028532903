use Rattle.std.proofs.Common.{arith}
use Rattle.rl_text.proofs.ShortLaws.{writes-hundreds}
use Rattle.rl_text.proofs.writing.write_long.Goals as goal

pub returns-then-n-lt1000000-clause-writes : goal.returns-then-n-lt1000000-clause-writes
returns-then-n-lt1000000-clause-writes c = writes-hundreds _ _ _ _ _ _ c.args.n (omega (arith, c.if-n-lt10000.false)) (omega (arith, c.if-n-lt1000000.true)) c.write_middle-at.ensures.writes c.write_two_digits.ensures.writes
