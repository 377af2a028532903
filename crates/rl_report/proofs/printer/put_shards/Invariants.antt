use Rattle.std.proofs.Common.{◌≡◌, ◌++◌, take}
use Rattle.rl_text.specs.Spelling.{text_of}
use Rattle.rl_report.specs.Spelling.{shards_lines}
use Rattle.rl_report.proofs.printer.put_shards.Given as goal

-- the lines so far stand
abbrev pub invariant-loop-number : goal.invariant-loop-number
invariant-loop-number l = l.out.items ≡ l.fn.out.items ++ text_of (shards_lines l.naming 0 (take l.number l.shards))
