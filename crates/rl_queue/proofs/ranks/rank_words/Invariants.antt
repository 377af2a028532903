-- So far the numbers are those of the ranks before this one.
use Rattle.std.proofs.Common.{◌≡◌}
use Rattle.rl_queue.specs.RankWords.{every_second}
use Rattle.rl_queue.proofs.ranks.rank_words.Given as goal

abbrev pub invariant-loop-rank : goal.invariant-loop-rank
invariant-loop-rank l = l.words.items ≡ every_second l.from l.rank
