use Rattle.std.proofs.Common.{◌≡◌, ◌++◌, take}
use Rattle.rl_report.specs.Printing.{spaced}
use Rattle.rl_names.specs.StepWords.{events_words}
use Rattle.rl_names.proofs.stepping.put_events.Given as goal

-- the events so far stand
abbrev pub invariant-loop-step : goal.invariant-loop-step
invariant-loop-step l = l.out.items ≡ l.fn.out.items ++ spaced (events_words l.naming (take l.step-index l.events))
