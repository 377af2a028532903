use Rattle.std.proofs.Common.{◌++◌, inl, inr, sym, ap, ◌∙◌, map}
use Rattle.std.proofs.lemmas.List.{append-nil, length-map}
use Rattle.rl_text.specs.Spelling.{text_of}
use Rattle.rl_ops.proofs.PrintLemmas.{ranks-none}
use Rattle.rl_ops.proofs.ops_printer.put_ranks.Goals as goal

pub returns : goal.returns
returns c =
    let iter = c.loop-rank.rank-iterator.iter in
    let none = ranks-none c.loop-rank.rank-iterator.count (map (λ v. v.items) iter.a.rest.now) (map (λ v. v.items) iter.b.rest.now) (elim c.in-None.ensures.steps.0 [
      | inl w ↦ inl (rw length-map w.1.0)
      | inr w ↦ inr (rw length-map w.1.0)
    ]) in
    sym (append-nil c.loop-rank.out.items) ∙ ap (λ lines. c.loop-rank.out.items ++ text_of lines) (sym none) ∙ c.loop-rank.invariant
