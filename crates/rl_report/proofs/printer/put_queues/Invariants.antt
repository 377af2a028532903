use Rattle.std.proofs.Common.{◌≡◌, ◌++◌, take}
use Rattle.rl_text.specs.Spelling.{text_of}
use Rattle.rl_report.specs.Spelling.{queue_lines}
use Rattle.rl_report.proofs.printer.put_queues.Given as goal

-- the lines so far stand
abbrev pub invariant-loop-number : goal.invariant-loop-number
invariant-loop-number l = l.out.items ≡ l.fn.out.items ++ text_of (queue_lines (take l.number l.queues) l.tallies)
