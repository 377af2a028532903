use Rattle.std.proofs.Common.{◌++◌, inl, inr, sym, ap, ◌∙◌}
use Rattle.std.specs.List.{flat_map}
use Rattle.std.proofs.lemmas.List.{append-nil}
use Rattle.rl_text.specs.Spelling.{text_of}
use Rattle.rl_ops.specs.Ops.{sized_lines}
use Rattle.rl_ops.proofs.PrintLemmas.{zip-none}
use Rattle.rl_ops.proofs.ops_printer.put_rank.Goals as goal

pub returns : goal.returns
returns c =
    let none = zip-none c.loop-call.call-iterator.a.rest.now c.loop-call.call-iterator.b.rest.now (elim c.in-None.ensures.steps [ inl w ↦ inl w.1.0 | inr w ↦ inr w.1.0 ]) in
    sym (append-nil c.loop-call.out.items) ∙ ap (λ ps. c.loop-call.out.items ++ text_of (flat_map (sized_lines c.args.rank) ps)) (sym none) ∙ c.loop-call.invariant
