use Rattle.std.proofs.Common.{All, subst}
use Rattle.rl_reporting.specs.Reported.{NumbersFit}
use Rattle.rl_reporting.proofs.reporting.report_of_machine.Goals as goal

pub returns-clause-numbers : goal.returns-clause-numbers
returns-clause-numbers g c = subst (All NumbersFit) c.as_slice-2.ensures.value c.parts_fit.ensures
