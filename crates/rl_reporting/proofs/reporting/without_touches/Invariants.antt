use Rattle.std.proofs.Common.{◌≡◌, filter, take}
use Rattle.rl_report.specs.Spelling.{is_printed}
use Rattle.rl_reporting.proofs.reporting.without_touches.Given as goal

-- the events so far, but for touches
abbrev pub invariant-loop-step : goal.invariant-loop-step
invariant-loop-step l = l.kept.items ≡ filter (λ e. is_printed e.1) (take l.step-index l.events)
