use Rattle.std.proofs.Common.{refl, arith}
use Rattle.rl_text.specs.Rows.{words}
use Rattle.rl_text.proofs.line.Line.words.Goals as goal

pub invariant_of-result : goal.invariant_of-result
unfolding words
invariant_of-result c = (omega arith, refl)
