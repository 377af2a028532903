use Rattle.rl_place.proofs.PlaceLaws.{no_fault-value, value-no_fault, one_place}
use Rattle.rl_place.proofs.laws.no_fault.Goals as goal

pub returns-clause-spelled : goal.returns-clause-spelled
returns-clause-spelled c = λ text. (no_fault-value text, value-no_fault text)

pub returns-clause-one : goal.returns-clause-one
returns-clause-one c = λ a b first second e. one_place a b first second e
