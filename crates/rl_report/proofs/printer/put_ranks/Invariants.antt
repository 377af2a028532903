use Rattle.std.proofs.Common.{◌≡◌, ◌++◌, take}
use Rattle.rl_text.specs.Spelling.{text_of}
use Rattle.rl_report.specs.Spelling.{rank_done_lines}
use Rattle.rl_report.proofs.printer.put_ranks.Given as goal

-- the lines so far stand
abbrev pub invariant-loop-rank : goal.invariant-loop-rank
invariant-loop-rank l = l.out.items ≡ l.fn.out.items ++ text_of (rank_done_lines 0 (take l.rank l.ranks))
