use Rattle.std.proofs.Common.{ℕ, ◌<◌, get_or}
use Rattle.rl_step.specs.declared.tallies.Tally.{Tally}
use Rattle.rl_report.specs.Reports.{TallyFits}
use Rattle.rl_report.proofs.ranges.tallies_fit.Given as goal

abbrev pub invariant-loop-tally : goal.invariant-loop-tally
invariant-loop-tally l = (k : ℕ) (d : Tally) → k < l.tally-index → TallyFits (get_or l.tallies k d)
