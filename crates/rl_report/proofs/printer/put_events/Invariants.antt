use Rattle.std.proofs.Common.{◌≡◌, ◌++◌, take}
use Rattle.rl_text.specs.Spelling.{text_of}
use Rattle.rl_report.specs.Spelling.{event_lines}
use Rattle.rl_report.proofs.printer.put_events.Given as goal

-- the lines so far stand
abbrev pub invariant-loop-step : goal.invariant-loop-step
invariant-loop-step l = l.out.items ≡ l.fn.out.items ++ text_of (event_lines l.naming (take l.step-index l.events))
