use Rattle.rl_check.proofs.Taking.{alone_more, none_more, fits_more, batch_more, same_part}
use Rattle.rl_check.proofs.due_replies.OneThread.take_block.Goals as goal

pub returns-then-entry-eq0-clause-told : goal.returns-then-entry-eq0-clause-told
returns-then-entry-eq0-clause-told c =
    alone_more _ c.args.entries.now c.args.place _ _ c.requires.so_far _ c.requires.there _ _ c.if-entry-eq0.true c.in_ok-take_call.ensures.told c.in_ok-take_call.ensures.table

pub returns-then-not-is_whole_batch-clause-told : goal.returns-then-not-is_whole_batch-clause-told
returns-then-not-is_whole_batch-clause-told c =
    none_more _ c.args.entries.now c.args.place _ _ c.requires.so_far _ c.requires.there _ c.is_whole_batch.ensures _ c.if-entry-eq0.false c.if-not-is_whole_batch.true c.in_ok-push.ensures.items

pub slice_bounds-take_batch-end : goal.slice_bounds-take_batch-end
slice_bounds-take_batch-end c =
    fits_more _ c.args.entries.now c.args.place _ _ c.requires.so_far _ c.requires.there _ c.is_whole_batch.ensures c.if-not-is_whole_batch.false

pub returns-clause-told : goal.returns-clause-told
returns-clause-told c =
    batch_more _ c.args.entries.now c.args.place _ _ c.requires.so_far _ c.requires.there _ c.is_whole_batch.ensures _ _ _ c.if-not-is_whole_batch.false (same_part c.args.entries.now c.args.place _) c.in_ok-take_batch.ensures.told c.in_ok-take_batch.ensures.table
