use Rattle.std.proofs.Common.{◌≤◌, length}
use Rattle.rmalock_picture.proofs.recording.events_of_step.Given as goal

abbrev pub invariant-loop-first : goal.invariant-loop-first
invariant-loop-first l = l.first ≤ length l.events

abbrev pub decreases-loop-first : goal.decreases-loop-first
decreases-loop-first l = l.first
