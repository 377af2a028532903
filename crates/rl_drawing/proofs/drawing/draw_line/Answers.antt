-- What a line draws.
use Rattle.std.proofs.Common.{◌≡◌, ◌<◌, length, sym, subst, ◌∙◌}
use Rattle.std.specs.List.{AllByRecursion}
use Rattle.rl_machine.specs.Running.{running}
use Rattle.rl_sketch.specs.Sketch.{named_ranks, LineFits}
use Rattle.rl_drawing.specs.declared.courses.Each.TheVariants as each
use Rattle.rl_drawing.specs.Drawing.{stops_each, AreEach, AreOfLine}
use Rattle.rl_drawing.specs.Leads.{Adds, IsOf}
use Rattle.rl_drawing.proofs.Leading.{draws_of, are_stops, each_stops}
use Rattle.rl_drawing.proofs.Stopping.{named_there}
use Rattle.rl_drawing.proofs.drawing.draw_line.Goals as goal

pub go_each-requires-clause-there : goal.go_each-requires-clause-there
go_each-requires-clause-there g c =
    let n = length c.args.scene.place.now.paths in
    let fits = subst (LineFits n c.args.stopped.now) c.in-Stops.is c.requires.fits in
    subst (AllByRecursion (λ k. k < n)) (sym (c.as_slice.ensures.value ∙ c.in_ok-named-in-Stops.ensures)) (named_there n c.args.stopped.now c.in-Stops.ranks fits)

pub returns-in_ok-named-in-Stops-clause-draws : goal.returns-in_ok-named-in-Stops-clause-draws
returns-in_ok-named-in-Stops-clause-draws g c =
    let place = c.args.scene.place.now in
    let n = length place.paths in
    let m = running g.C.ShardCore.says c.args.stage.now.machine in
    let ks = named_ranks n c.args.stopped.now c.in-Stops.ranks in
    let d = subst (λ js. Adds (AreEach (IsOf place each.Stop) m js) c.args.stage.now.left c.args.stage.now.turns c.go_each.new.stage.turns c.go_each.result) (c.as_slice.ensures.value ∙ c.in_ok-named-in-Stops.ensures) c.go_each.ensures.draws in
    subst (λ l. Adds (AreOfLine place n m c.args.stopped.now l) c.args.stage.now.left c.args.stage.now.turns c.go_each.new.stage.turns c.go_each.result) (sym c.in-Stops.is)
    (draws_of (AreEach (IsOf place each.Stop) m ks) (λ ts. ts ≡ stops_each ks) c.args.stage.now.turns c.go_each.new.stage.turns c.args.stage.now.left c.go_each.result d (are_stops place m ks) (each_stops place m ks))
