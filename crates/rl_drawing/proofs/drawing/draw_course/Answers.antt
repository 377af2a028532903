-- What the ranks do, as it is said of a sketch.
use Rattle.std.proofs.Common.{◌≡◌, ℕ, List, Result, refl, sym, subst}
use Rattle.rl_place.specs.Places.{ThePlace}
use Rattle.rl_ops.specs.declared.schedule.Turn.{Turn}
use Rattle.rl_machine.specs.Running.{Running, running}
use Rattle.rl_sketch.specs.declared.sketch.Course.{Course}
use Rattle.rl_drawing.specs.declared.stage.Halt.{Halt}
use Rattle.rl_drawing.specs.declared.courses.Each.TheVariants as each
use Rattle.rl_drawing.specs.Drawing.{steps_each, AreEach, AreOfCourse}
use Rattle.rl_drawing.specs.Leads.{Adds, IsOf}
use Rattle.rl_drawing.proofs.Leading.{draws_of, are_steps, each_steps}
use Rattle.rl_drawing.proofs.drawing.draw_course.Goals as goal

pub returns-in-Steps-clause-draws : goal.returns-in-Steps-clause-draws
returns-in-Steps-clause-draws g c =
    let place = c.args.scene.place.now in
    let m = running g.C.ShardCore.says c.args.stage.now.machine in
    let ks = c.args.ranks.items in
    let count = c.in-Steps.count in
    let d = subst (λ js. Adds (AreEach (IsOf place (each.Steps count)) m js) c.args.stage.now.left c.args.stage.now.turns c.go_each.new.stage.turns c.go_each.result) c.as_slice.ensures.value c.go_each.ensures.draws in
    subst (λ k. Adds (AreOfCourse place m ks k) c.args.stage.now.left c.args.stage.now.turns c.go_each.new.stage.turns c.go_each.result) (sym c.in-Steps.is)
    (draws_of (AreEach (IsOf place (each.Steps count)) m ks) (λ ts. ts ≡ steps_each count ks) c.args.stage.now.turns c.go_each.new.stage.turns c.args.stage.now.left c.go_each.result d (are_steps place count m ks) (each_steps place count m ks))

-- the ranks as they are read, and the course that it is
of_course : {V X : Type 0} (place : ThePlace) (m : Running V) (js ks : List ℕ) (course made : Course) (left : ℕ) (x z : List Turn) (e : Result X Halt) → js ≡ ks → course ≡ made →
    Adds (AreOfCourse place m js made) left x z e → Adds (AreOfCourse place m ks course) left x z e
of_course place m js ks course made left x z e read is d =
    subst (λ k. Adds (AreOfCourse place m ks k) left x z e) (sym is) (subst (λ i. Adds (AreOfCourse place m i made) left x z e) read d)

pub returns-in-Until-clause-draws : goal.returns-in-Until-clause-draws
returns-in-Until-clause-draws g c =
    of_course c.args.scene.place.now (running g.C.ShardCore.says c.args.stage.now.machine) _ _ _ _ _ _ _ _ c.as_slice-in-Until.ensures.value c.in-Until.is c.go_each-in-Until.ensures.draws

pub returns-in-Before-clause-draws : goal.returns-in-Before-clause-draws
returns-in-Before-clause-draws g c =
    of_course c.args.scene.place.now (running g.C.ShardCore.says c.args.stage.now.machine) _ _ _ _ _ _ _ _ c.as_slice-in-Before.ensures.value c.in-Before.is c.go_each-in-Before.ensures.draws

pub returns-in-InTurnUntil-clause-draws : goal.returns-in-InTurnUntil-clause-draws
returns-in-InTurnUntil-clause-draws g c =
    of_course c.args.scene.place.now (running g.C.ShardCore.says c.args.stage.now.machine) _ _ _ _ _ _ _ _ refl c.in-InTurnUntil.is c.go_in_turn.ensures.draws
