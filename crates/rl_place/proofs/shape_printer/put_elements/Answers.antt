use Rattle.std.proofs.Common.{◌++◌, inl, inr, map, sym, ap, ◌∙◌}
use Rattle.std.specs.List.{enumerate_from}
use Rattle.std.proofs.lemmas.List.{append-nil}
use Rattle.rl_text.specs.Spelling.{text_of}
use Rattle.rl_place.specs.ShapeText.{element_words}
use Rattle.rl_place.proofs.ShapePrinting.{zip-none}
use Rattle.rl_place.proofs.shape_printer.put_elements.Goals as goal

pub returns : goal.returns
returns c =
    let iter = c.loop-number.number-iterator.iter in
    let none = zip-none iter.a.rest.now iter.b.rest.now (elim c.in-None.ensures.steps.0 [ inl w ↦ inl w.1.0 | inr w ↦ inr w.1.0 ]) in
    sym (append-nil c.loop-number.out.items) ∙ ap (λ ps. c.loop-number.out.items ++ text_of (map element_words (enumerate_from c.loop-number.number-iterator.count ps))) (sym none) ∙ c.loop-number.invariant
