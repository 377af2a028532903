use Rattle.std.proofs.Common.{ℕ, ◌<◌, get_or}
use Rattle.rl_report.specs.Reports.{TheShard}
use Rattle.rl_reporting.specs.Reported.{NumbersFit}
use Rattle.rl_reporting.proofs.reporting.parts_fit.Given as goal

abbrev pub invariant-loop-part : goal.invariant-loop-part
invariant-loop-part l = (k : ℕ) (d : TheShard) → k < l.part-index → NumbersFit (get_or l.parts k d)
