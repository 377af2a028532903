use Rattle.std.proofs.Common.{drop}
use Rattle.rl_machine.specs.Running.{running}
use Rattle.rl_drawing.specs.Drawing.{AreEach}
use Rattle.rl_drawing.specs.Leads.{HasCome, Leads, IsOf}
use Rattle.rl_drawing.proofs.courses.go_each.Given as goal

-- the turns so far lead to those of the ranks that are left
abbrev pub invariant-loop-rank : goal.invariant-loop-rank
invariant-loop-rank g l =
    let Is = IsOf l.scene.place.now l.each in
    let first = running g.C.ShardCore.says l.fn.stage.machine in
    let now = running g.C.ShardCore.says l.stage.machine in
    HasCome g.C.ShardCore.defined l.scene.place.now l.scene.ops.now now l.stage.turns l.stage.left
    × Leads (AreEach Is first l.ranks) (AreEach Is now (drop l.rank-index l.ranks)) l.fn.stage.turns l.stage.turns
