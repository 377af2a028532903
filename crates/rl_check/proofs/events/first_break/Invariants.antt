use Rattle.std.proofs.Common.{take}
use Rattle.rl_step.specs.Traces.{events_of}
use Rattle.rl_check.specs.QueuesOf.{queues_all}
use Rattle.rl_check.specs.Watching.{Sees}
use Rattle.rl_check.proofs.events.first_break.Given as goal

abbrev pub invariant-loop-place : goal.invariant-loop-place
invariant-loop-place l = Sees (queues_all l.queues) l.ranks (events_of (take l.place l.events)) l.watch
