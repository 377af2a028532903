use Rattle.std.proofs.Common.{◌≡◌, ◌<◌, length}
use Rattle.rl_step.specs.Answers.{steps_made}
use Rattle.own_lock.proofs.main.Given as goal

-- so many steps were made, and the machine has the placement's ranks, of which there is one at least
abbrev pub invariant-loop-step : goal.invariant-loop-step
invariant-loop-step l = (steps_made l.machine.steps ≡ l.step-counter) × (length l.machine.calls ≡ l.ranks) × (0 < l.ranks)
