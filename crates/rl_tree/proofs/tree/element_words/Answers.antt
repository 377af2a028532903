-- One more number stands at the end.
use Rattle.std.proofs.Common.{◌∙◌, ◌≡◌, ◌+◌, ◌*◌, ◌++◌, ◌∷◌, [], suc, ap, sym, arith}
use Rattle.rl_queue.specs.RankWords.{every_second}
use Rattle.rl_queue.specs.laws.RankWordLaws.{every_second_more}
use Rattle.rl_tree.proofs.tree.element_words.Goals as goal

pub loop-element-preserved : goal.loop-element-preserved
loop-element-preserved c =
    let e : c.loop-element.element + 1 ≡ suc c.loop-element.element = omega arith in
    c.in_ok-push-2.ensures.items ∙ ap (λ z. z ++ (c.args.from + 2 * c.loop-element.element) ∷ []) c.loop-element.invariant ∙ ap (λ z. 0 ∷ z) (sym (every_second_more c.args.from c.loop-element.element) ∙ ap (every_second c.args.from) (sym e))
