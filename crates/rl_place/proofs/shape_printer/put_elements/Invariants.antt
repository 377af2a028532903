use Rattle.std.proofs.Common.{◌≡◌, ◌++◌, map}
use Rattle.std.specs.List.{enumerate_from, zip}
use Rattle.rl_text.specs.Spelling.{text_of}
use Rattle.rl_place.specs.ShapeText.{element_words, element_lines}
use Rattle.rl_place.proofs.shape_printer.put_elements.Given as goal

-- what was printed and what is left to print
abbrev pub invariant-loop-number : goal.invariant-loop-number
invariant-loop-number l =
    l.out.items ++ text_of (map element_words (enumerate_from l.number-iterator.count (zip l.number-iterator.iter.a.rest.now l.number-iterator.iter.b.rest.now)))
    ≡ l.fn.out.items ++ text_of (element_lines l.names l.elements)
