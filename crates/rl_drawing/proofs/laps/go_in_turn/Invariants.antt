use Rattle.std.proofs.Common.{◌≡◌, ◌+◌, ◌<◌, length}
use Rattle.std.specs.List.{AllByRecursion}
use Rattle.rl_machine.specs.Running.{running}
use Rattle.rl_drawing.specs.Drawing.{AreInTurn}
use Rattle.rl_drawing.specs.Leads.{HasCome, Leads, sees}
use Rattle.rl_drawing.proofs.laps.go_in_turn.Given as goal

-- the turns so far, a step each, lead to those of the ranks that wait
abbrev pub invariant-loop : goal.invariant-loop
invariant-loop g l =
    let shown = sees l.scene.place.now l.sought in
    let first = running g.C.ShardCore.says l.fn.stage.machine in
    let now = running g.C.ShardCore.says l.stage.machine in
    HasCome g.C.ShardCore.defined l.scene.place.now l.scene.ops.now now l.stage.turns l.stage.left
    × Leads (AreInTurn shown first l.fn.ranks.items) (AreInTurn shown now l.waiting.items) l.fn.stage.turns l.stage.turns
    × AllByRecursion (λ k. k < length l.scene.place.now.paths) l.waiting.items
    × (l.stage.left + l.counter ≡ l.fn.stage.left)
