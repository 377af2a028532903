use Rattle.std.proofs.Common.{◌≡◌, length, take}
use Rattle.rl_report.specs.Tallies.{tallies_from}
use Rattle.rl_step.specs.Traces.{events_of}
use Rattle.rl_report.proofs.counting.tallies.Given as goal

-- the events so far are counted
abbrev pub invariant-loop-place : goal.invariant-loop-place
invariant-loop-place l = (l.tallies.items ≡ tallies_from 0 (length l.tallies.items) (events_of (take l.place l.events))) × (length l.tallies.items ≡ l.queues)
