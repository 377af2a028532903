-- The seats so far hold so much, up to a full count.
use Rattle.std.proofs.Common.{◌≡◌, min, take}
use Rattle.rl_shard.specs.Tallies.{full}
use Rattle.rl_shard.specs.Ends.{all_settled, all_passed}
use Rattle.rl_shard.proofs.closing.total.Given as goal

abbrev pub invariant-loop-seat : goal.invariant-loop-seat
invariant-loop-seat g l = (l.settled ≡ min (all_settled l.queue (take l.seat-index l.seats)) full) × (l.passed ≡ min (all_passed l.queue (take l.seat-index l.seats)) full)
