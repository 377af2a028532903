use Rattle.std.proofs.Common.{◌≡◌, drop}
use Rattle.rl_journal.specs.Blocks.{any_stops}
use Rattle.rl_check.proofs.blocks.any_stops.Given as goal

abbrev pub invariant-loop-reply : goal.invariant-loop-reply
invariant-loop-reply l = any_stops l.replies ≡ any_stops (drop l.reply-index l.replies)
