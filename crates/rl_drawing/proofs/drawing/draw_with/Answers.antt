-- A schedule that is drawn fits.
use Rattle.std.proofs.Common.{[], length, sym, subst}
use Rattle.rl_sketch.specs.Sketch.{LinesFit}
use Rattle.rl_locks.specs.Runs.{start_with}
use Rattle.rl_drawing.proofs.Lines.{whole_fits}
use Rattle.rl_drawing.proofs.drawing.draw_with.Goals as goal

pub returns-clause-fits : goal.returns-clause-fits
returns-clause-fits g c =
    let place = c.args.place.now in
    let come = rw c.in-None.is at c.in_ok-line.ensures in
    let fit = subst (LinesFit (length place.paths) []) (sym c.as_slice.ensures) c.requires.sketch in
    whole_fits place (length place.paths) (start_with g.C.ShardCore.defined place c.args.ops.now) c.as_slice.result.now c.draw_lines.new.stage.turns fit come.0 come.1 come.2
