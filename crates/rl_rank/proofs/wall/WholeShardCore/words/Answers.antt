-- Both have few words.
use Rattle.std.proofs.Common.{arith}
use Rattle.rl_rank.proofs.wall.WholeShardCore.words.Goals as goal

pub overflow_add-result : goal.overflow_add-result
overflow_add-result g c =
    let few = (g.met.A.Algo.laws c.args.self.now.algo).few_words in
    let more = c.words-2.ensures.few in
    let is = c.words.ensures in omega arith
