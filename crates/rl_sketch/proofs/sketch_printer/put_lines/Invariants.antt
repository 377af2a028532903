use Rattle.std.proofs.Common.{◌≡◌, ◌++◌, take, map}
use Rattle.rl_text.specs.Spelling.{text_of}
use Rattle.rl_sketch.specs.Sketch.{line_words}
use Rattle.rl_sketch.proofs.sketch_printer.put_lines.Given as goal

abbrev pub invariant-loop-line : goal.invariant-loop-line
invariant-loop-line l = l.out.items ≡ l.fn.out.items ++ text_of (map line_words (take l.line-index l.lines))
