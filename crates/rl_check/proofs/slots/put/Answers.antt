use Rattle.rl_check.proofs.SlotLaws.{put_in, put_nowhere}
use Rattle.rl_check.proofs.slots.put.Goals as goal

pub returns-then-entry-slots : goal.returns-then-entry-slots
returns-then-entry-slots c = record { slots = put_in c.args.own.now c.args.place _ c.requires.there c.args.slots.now c.requires.so_far _ _ c.if-entry-slots.true c.with_entry.ensures }

pub returns-else-entry-slots : goal.returns-else-entry-slots
returns-else-entry-slots c = record { slots = put_nowhere c.args.own.now c.args.place _ c.requires.there c.args.slots.now c.requires.so_far c.if-entry-slots.false }
