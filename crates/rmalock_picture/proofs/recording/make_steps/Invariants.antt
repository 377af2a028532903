use Rattle.std.proofs.Common.{◌≡◌, length, vec_len}
use Rattle.rl_step.specs.Answers.{steps_made}
use Rattle.rmalock_picture.proofs.recording.make_steps.Given as goal

-- as many steps were made as the number of the next one says; ranks and lanes stay
abbrev pub invariant-loop : goal.invariant-loop
invariant-loop g l =
    (steps_made l.machine.steps ≡ l.step) × (length l.machine.calls ≡ length l.fn.machine.calls) × (vec_len l.lanes ≡ vec_len l.fn.lanes)
