use Rattle.std.proofs.lemmas.Slice.Eq.{slice_eq-Decides}
use Rattle.rl_check.proofs.PairLaws.{tally_decides}
use Rattle.rl_check.proofs.shards.same_tallies.Goals as goal

pub returns : goal.returns
returns c = slice_eq-Decides tally_decides _ _ _ c.eq.ensures
