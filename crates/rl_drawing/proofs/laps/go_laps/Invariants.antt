use Rattle.std.proofs.Common.{◌≡◌, ◌-◌}
use Rattle.rl_machine.specs.Running.{running}
use Rattle.rl_drawing.specs.Drawing.{laps}
use Rattle.rl_drawing.specs.Leads.{HasCome, Leads}
use Rattle.rl_drawing.proofs.laps.go_laps.Given as goal

-- the turns so far lead to the laps that are left
abbrev pub invariant-loop : goal.invariant-loop
invariant-loop g l =
    HasCome g.C.ShardCore.defined l.scene.place.now l.scene.ops.now (running g.C.ShardCore.says l.stage.machine) l.stage.turns l.stage.left
    × Leads (λ ts. ts ≡ laps l.count l.ranks) (λ ts. ts ≡ laps (l.count - l.counter) l.ranks) l.fn.stage.turns l.stage.turns
