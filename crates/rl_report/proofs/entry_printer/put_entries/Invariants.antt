use Rattle.std.proofs.Common.{◌≡◌, ◌++◌, take, map}
use Rattle.rl_text.specs.Spelling.{text_of}
use Rattle.rl_report.specs.Spelling.{entry_words}
use Rattle.rl_report.proofs.entry_printer.put_entries.Given as goal

-- the lines so far stand
abbrev pub invariant-loop-entry : goal.invariant-loop-entry
invariant-loop-entry l = l.out.items ≡ l.fn.out.items ++ text_of (map entry_words (take l.entry-index l.entries))
