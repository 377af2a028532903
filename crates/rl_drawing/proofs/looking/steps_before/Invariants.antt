use Rattle.std.proofs.Common.{◌≡◌, ◌<◌, ℕ, false, replicate}
use Rattle.rl_machine.specs.Running.{running}
use Rattle.rl_machine.specs.Run.{run_of}
use Rattle.rl_drawing.specs.Leads.{sees}
use Rattle.rl_drawing.proofs.looking.steps_before.Given as goal

-- so many steps were made, none of which shows it
abbrev pub invariant-loop-made : goal.invariant-loop-made
invariant-loop-made g l =
    let first = running g.C.ShardCore.says l.fn.machine in
    (running g.C.ShardCore.says l.machine ≡ run_of first (replicate l.made l.rank))
    × ((i : ℕ) → i < l.made → sees l.scene.place.now l.sought (run_of first (replicate i l.rank)) l.rank ≡ false)
