use Rattle.std.proofs.Common.{◌≡◌, ◌<◌, length}
use Rattle.rl_step.specs.Answers.{steps_made}
use Rattle.first_steps.proofs.nine_steps.Given as goal

-- so many steps were made, and rank 0 is there
abbrev pub invariant-loop : goal.invariant-loop
invariant-loop l = (steps_made l.machine.steps ≡ l.counter) × (0 < length l.machine.calls)
