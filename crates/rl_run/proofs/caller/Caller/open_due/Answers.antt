-- A block is open, or the next one is opened.
use Rattle.std.proofs.Common.{refl}
use Rattle.rl_run.proofs.caller.Caller.open_due.Goals as goal

pub returns-then-is_open-clause-none : goal.returns-then-is_open-clause-none
returns-then-is_open-clause-none g c = λ opened. record { stays = refl; none_left = λ all. let closed = c.is_open.ensures.1 all in let opens = c.if-is_open.true in absurd (cc) }

pub open_next-requires-clause-closed : goal.open_next-requires-clause-closed
open_next-requires-clause-closed g c = c.is_open.ensures.0 c.if-is_open.false

pub returns-clause-all : goal.returns-clause-all
returns-clause-all g c = λ all. absurd (c.open_next.ensures.is_open all)
