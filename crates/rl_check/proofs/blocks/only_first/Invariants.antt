use Rattle.std.proofs.Common.{◌≡◌, ◌++◌, drop}
use Rattle.rl_journal.specs.Blocks.{only_first}
use Rattle.rl_check.specs.Only.{only_after}
use Rattle.rl_check.proofs.blocks.only_first.Given as goal

abbrev pub invariant-loop-reply : goal.invariant-loop-reply
invariant-loop-reply l = l.told.items ++ only_after l.stopped (drop l.reply-index l.replies) ≡ only_first l.replies
