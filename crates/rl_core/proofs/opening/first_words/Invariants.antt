-- The words so far are in their places, and all after them is 0.
use Rattle.std.proofs.Common.{◌≡◌}
use Rattle.rl_core.specs.laws.Filling.{opened_to}
use Rattle.rl_core.proofs.opening.first_words.Given as goal

abbrev pub invariant-loop-word : goal.invariant-loop-word
invariant-loop-word g l =
    let T = (g.C.ShardCore.says l.core).table in
    l.words.items ≡ opened_to T.site T.behind l.word
