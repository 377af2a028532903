use Rattle.std.proofs.Common.{ℕ, ◌<◌, get_or}
use Rattle.rl_model.specs.declared.entry.Entry.{Entry}
use Rattle.rl_report.specs.Reports.{ReplyFits}
use Rattle.rl_report.proofs.ranges.replies_fit.Given as goal

abbrev pub invariant-loop-entry : goal.invariant-loop-entry
invariant-loop-entry l = (k : ℕ) (d : Entry) → k < l.entry-index → ReplyFits (get_or l.entries k d).reply
