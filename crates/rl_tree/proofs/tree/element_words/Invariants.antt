-- So far the numbers are those of the elements before this one.
use Rattle.std.proofs.Common.{◌≡◌, ◌∷◌}
use Rattle.rl_queue.specs.RankWords.{every_second}
use Rattle.rl_tree.proofs.tree.element_words.Given as goal

abbrev pub invariant-loop-element : goal.invariant-loop-element
invariant-loop-element l = l.words.items ≡ 0 ∷ every_second l.from l.element
