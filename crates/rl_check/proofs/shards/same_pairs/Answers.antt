use Rattle.std.proofs.lemmas.Slice.Eq.{slice_eq-Decides}
use Rattle.rl_check.proofs.PairLaws.{pair_decides}
use Rattle.rl_check.proofs.shards.same_pairs.Goals as goal

pub returns : goal.returns
returns c = slice_eq-Decides pair_decides _ _ _ c.eq.ensures
