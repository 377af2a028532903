use Rattle.std.proofs.Common.{rules, ◌++◌, ◌∷◌, [], ap, ◌∙◌, List, ℕ}
use Rattle.rl_window.proofs.TakenIn.{more_taken}
use Rattle.rl_window.proofs.closing.read_words.Goals as goal

pub loop-i-preserved : goal.loop-i-preserved
loop-i-preserved c = (
  search rules,
  search rules,
  c.push_reserved.ensures.items ∙ (ap (λ (l : List ℕ). l ++ c.word.result ∷ []) c.loop-i.invariant.2 ∙ more_taken _ _ _ c.word.ensures),
  search rules,
)
