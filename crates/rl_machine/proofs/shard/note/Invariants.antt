-- The events so far stand at the end, and the room is still there.
use Rattle.std.proofs.Common.{◌≡◌, ◌+◌, ◌++◌, take}
use Rattle.rl_machine.specs.ShardSteps.{numbered}
use Rattle.rl_machine.proofs.shard.note.Given as goal

abbrev pub invariant-loop-event : goal.invariant-loop-event
invariant-loop-event l =
    (l.events.items ≡ l.fn.events.items ++ numbered l.step (take l.event-index l.noted)) × (l.events.len ≡ l.fn.events.len + l.event-index) × (l.events.cap ≡ l.fn.events.cap)
