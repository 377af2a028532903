-- The events so far are counted.
use Rattle.std.proofs.Common.{◌≡◌, take}
use Rattle.rl_shard.specs.Tallies.{all_noted}
use Rattle.rl_shard.proofs.tallies.Tallies.count.Given as goal

abbrev pub invariant-loop-event : goal.invariant-loop-event
invariant-loop-event l = l.self ≡ all_noted (take l.event-index l.events) l.fn.self
