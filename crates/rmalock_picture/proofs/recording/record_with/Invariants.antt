use Rattle.std.proofs.Common.{◌≡◌, length, vec_len}
use Rattle.rl_step.specs.Answers.{steps_made}
use Rattle.rmalock_picture.proofs.recording.record_with.Given as goal

-- as many steps were made as the number of the next one says; there is a lane for each rank
abbrev pub invariant-loop-turn : goal.invariant-loop-turn
invariant-loop-turn g l =
    (steps_made l.machine.steps ≡ l.step) × (length l.machine.calls ≡ length l.fn.place.paths) × (vec_len l.lanes ≡ length l.fn.place.paths)
