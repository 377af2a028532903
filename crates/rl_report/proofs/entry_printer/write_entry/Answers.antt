-- The words of an entry are its line.
use Rattle.std.proofs.Common.{◌++◌, ◌∷◌, [], ◌∙◌, sym, ap, codes, decimal, take}
use Rattle.rl_report.specs.Printing.{spaced}
use Rattle.rl_report.specs.Spelling.{answer_words}
use Rattle.rl_report.proofs.Lines.{entry_line, appended}
use Rattle.rl_report.proofs.entry_printer.write_entry.Goals as goal

pub returns-clause-line : goal.returns-clause-line
returns-clause-line c =
    let e = c.args.entry.now in
    let start = take c.write_bytes-at.result c.write_bytes-at.new.line in
    let at = take c.write_spaced-at.result c.write_spaced-at.new.line in
    let rank = take c.write_spaced-at-2.result c.write_spaced-at-2.new.line in
    let seq = take c.write_spaced-at-3.result c.write_spaced-at-3.new.line in
    let answer = take c.write_answer-at.result c.write_answer-at.new.line in (
      appended [] (codes "entry") (32 ∷ decimal e.at) (32 ∷ decimal e.rank) (32 ∷ decimal e.seq) (spaced (answer_words e)) (10 ∷ [])
          start at rank seq answer (take c.write_byte.result c.write_byte.new.line)
          c.write_bytes-at.ensures.writes.0
          (c.write_spaced-at.ensures.writes.0 ∙ ap (λ n. start ++ 32 ∷ decimal n) c.from.ensures)
          (c.write_spaced-at-2.ensures.writes.0 ∙ ap (λ n. at ++ 32 ∷ decimal n) c.from-2.ensures)
          (c.write_spaced-at-3.ensures.writes.0 ∙ ap (λ n. rank ++ 32 ∷ decimal n) c.from-3.ensures)
          c.write_answer-at.ensures.writes.0
          c.write_byte.ensures.writes.0
          ∙ sym (entry_line e),
      c.write_byte.ensures.writes.1 ∙ c.write_answer-at.ensures.writes.1 ∙ c.write_spaced-at-3.ensures.writes.1 ∙ c.write_spaced-at-2.ensures.writes.1 ∙ c.write_spaced-at.ensures.writes.1 ∙ c.write_bytes-at.ensures.writes.1,
    )
