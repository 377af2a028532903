use Rattle.rl_check.proofs.Taking.{first_told, told_still}
use Rattle.rl_check.proofs.due_replies.one_thread.Goals as goal

pub loop-place-init : goal.loop-place-init
loop-place-init c =
    record {
      size = c.new.ensures.geom;
      so_far = told_still c.args.geom c.args.entries.now 0 _ _ _ _ (first_told c.args.geom c.args.entries.now) c.in_ok-with_capacity.ensures.items c.new.ensures.empty;
    }
