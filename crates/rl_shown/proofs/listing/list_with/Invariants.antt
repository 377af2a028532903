use Rattle.std.proofs.Common.{◌≡◌, ◌++◌, length, take}
use Rattle.rl_step.specs.Answers.{steps_made}
use Rattle.rl_text.specs.Spelling.{text_of}
use Rattle.rl_place.specs.Shapes.{shape_of, knobs_of}
use Rattle.rl_report.specs.Naming.{naming_of}
use Rattle.rl_machine.specs.Running.{running}
use Rattle.rl_machine.specs.Run.{run_of, ranks_of_turns, steps_in}
use Rattle.rl_machine.specs.Start.{start_of}
use Rattle.rl_shown.specs.Listing.{head_lines, step_lines}
use Rattle.rl_shown.proofs.listing.list_with.Given as goal

-- the turns so far were taken from the start, and the lines of their steps stand
abbrev pub invariant-loop-turn : goal.invariant-loop-turn
invariant-loop-turn g l =
    let place = l.fn.place in
    let start = start_of g.C.ShardCore.defined (shape_of place) (knobs_of place.lock) place.geom place.homes l.fn.ops in
    (l.out.items ≡ text_of (head_lines (naming_of place)) ++ text_of (step_lines place (naming_of place) l.fn.window start (ranks_of_turns (take l.turn-index l.turns))))
    × (running g.C.ShardCore.says l.machine ≡ run_of start (ranks_of_turns (take l.turn-index l.turns)))
    × (steps_made l.machine.steps ≡ steps_in (take l.turn-index l.turns)) × (length l.machine.calls ≡ length place.paths)
