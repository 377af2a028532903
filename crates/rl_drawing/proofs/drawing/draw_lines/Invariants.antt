use Rattle.std.proofs.Common.{◌≡◌, ◌+◌, [], length, take, drop}
use Rattle.rl_machine.specs.Running.{running}
use Rattle.rl_sketch.specs.Sketch.{stopped_by, LinesFit}
use Rattle.rl_locks.specs.Runs.{start_with}
use Rattle.rl_drawing.specs.Drawing.{AreOfLines}
use Rattle.rl_drawing.specs.Leads.{HasCome}
use Rattle.rl_drawing.proofs.drawing.draw_lines.Given as goal

-- the turns are those of the lines so far
abbrev pub invariant-loop-line : goal.invariant-loop-line
invariant-loop-line g l =
    let place = l.scene.place.now in
    let ranks = length place.paths in
    HasCome g.C.ShardCore.defined place l.scene.ops.now (running g.C.ShardCore.says l.stage.machine) l.stage.turns l.stage.left
    × AreOfLines place ranks (start_with g.C.ShardCore.defined place l.scene.ops.now) [] (take l.line-index l.lines) l.stage.turns
    × (l.stopped.items ≡ stopped_by ranks [] (take l.line-index l.lines))
    × LinesFit ranks l.stopped.items (drop l.line-index l.lines)
    × (l.number ≡ l.line-index + 2)
