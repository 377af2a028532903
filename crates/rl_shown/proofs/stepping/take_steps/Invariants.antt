use Rattle.std.proofs.Common.{◌≡◌, ◌+◌, ◌++◌, replicate}
use Rattle.rl_step.specs.Answers.{steps_made}
use Rattle.rl_text.specs.Spelling.{text_of}
use Rattle.rl_machine.specs.Running.{running}
use Rattle.rl_machine.specs.Run.{run_of}
use Rattle.rl_shown.specs.Listing.{step_lines}
use Rattle.rl_shown.proofs.stepping.take_steps.Given as goal

-- the steps so far were made, and their lines stand
abbrev pub invariant-loop : goal.invariant-loop
invariant-loop g l =
    (l.out.items ≡ l.fn.out.items ++ text_of (step_lines l.scene.place.now l.scene.naming.now l.scene.window (running g.C.ShardCore.says l.fn.machine) (replicate l.counter l.rank)))
    × (running g.C.ShardCore.says l.machine ≡ run_of (running g.C.ShardCore.says l.fn.machine) (replicate l.counter l.rank))
    × (steps_made l.machine.steps ≡ steps_made l.fn.machine.steps + l.counter) × (l.machine.calls ≡ l.fn.machine.calls)
