use Rattle.rl_check.proofs.OnlyLaws.{one_told}
use Rattle.rl_check.proofs.blocks.only_first.Goals as goal

pub loop-reply-preserved : goal.loop-reply-preserved
loop-reply-preserved c = one_told c.args.replies.now c.loop-reply.reply-index _ c.loop-reply.told.items _ _ c.loop-reply.stopped _ c.loop-reply-test.true c.loop-reply.invariant c.told_next-stops.ensures c.in_ok-push.ensures.items
