use Rattle.std.proofs.Common.{◌≡◌, ◌++◌, take, map}
use Rattle.rl_text.specs.Spelling.{text_of}
use Rattle.rl_report.specs.Spelling.{pair_words}
use Rattle.rl_report.proofs.printer.put_pairs.Given as goal

-- the lines so far stand
abbrev pub invariant-loop-key : goal.invariant-loop-key
invariant-loop-key l = l.out.items ≡ l.fn.out.items ++ text_of (map pair_words (take l.key-index l.pairs))
