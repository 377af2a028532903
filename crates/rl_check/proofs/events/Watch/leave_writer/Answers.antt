use Rattle.rl_check.proofs.WatchLaws.{leaves_off, leaves_nobody, leaves_other}
use Rattle.rl_check.proofs.events.Watch.leave_writer.Goals as goal

pub returns-in_default : goal.returns-in_default
returns-in_default c queues ranks trace there s = leaves_nobody queues ranks trace _ _ _ _ s c.args.rank c.in_default.is

pub returns-then-writer-rank : goal.returns-then-writer-rank
returns-then-writer-rank c queues ranks trace there s = leaves_off queues ranks trace _ _ _ _ s c.args.rank c.in-Some.writer c.in-Some.is c.if-writer-rank.true

pub returns-else-writer-rank : goal.returns-else-writer-rank
returns-else-writer-rank c queues ranks trace there s = leaves_other queues ranks trace _ _ _ _ s c.args.rank c.in-Some.writer c.in-Some.is c.if-writer-rank.false
