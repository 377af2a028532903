-- The ranks that are named are there, and each once.
use Rattle.std.proofs.Common.{◌≡◌, ◌≤◌, ◌<◌, length, ap, sym, subst, ◌∙◌, arith}
use Rattle.std.specs.List.{AllByRecursion}
use Rattle.rl_machine.specs.Running.{running}
use Rattle.rl_sketch.specs.Sketch.{named_ranks}
use Rattle.rl_sketch.proofs.RankLaws.{few-below}
use Rattle.rl_drawing.specs.Drawing.{AreOfCourse, AreToTheEnd}
use Rattle.rl_drawing.specs.Leads.{Adds}
use Rattle.rl_drawing.proofs.Stopping.{named_there, named_once, named_some}
use Rattle.rl_drawing.proofs.Lines.{end_is, course_is}
use Rattle.rl_drawing.proofs.drawing.draw_going.Goals as goal

pub go_to_the_end-requires-clause-there : goal.go_to_the_end-requires-clause-there
go_to_the_end-requires-clause-there g c =
    let n = length c.args.scene.place.now.paths in
    subst (AllByRecursion (λ k. k < n)) (sym (c.as_slice.ensures.value ∙ c.in_ok-named.ensures)) (named_there n c.args.stopped.now c.args.ranks.now c.requires.fits)

pub draw_course-requires-clause-there : goal.draw_course-requires-clause-there
draw_course-requires-clause-there g c =
    let n = length c.args.scene.place.now.paths in
    subst (AllByRecursion (λ k. k < n)) (sym c.in_ok-named.ensures) (named_there n c.args.stopped.now c.args.ranks.now c.requires.fits)

pub draw_course-requires-clause-some : goal.draw_course-requires-clause-some
draw_course-requires-clause-some g c =
    let n = length c.args.scene.place.now.paths in
    subst (λ ks. 0 < length ks) (sym c.in_ok-named.ensures) (named_some n c.args.stopped.now c.args.ranks.now c.requires.fits)

pub draw_course-requires-clause-few : goal.draw_course-requires-clause-few
draw_course-requires-clause-few g c =
    let n = length c.args.scene.place.now.paths in
    let named = named_ranks n c.args.stopped.now c.args.ranks.now in
    let low : length named ≤ n = few-below n named (named_once n c.args.stopped.now c.args.ranks.now c.requires.fits) (named_there n c.args.stopped.now c.args.ranks.now c.requires.fits) in
    let most = c.requires.scene.proper.most_ranks in
    let same : length c.in_ok-named.named.items ≡ length named = ap length c.in_ok-named.ensures in
    omega (arith, low, most, same)

pub returns-then-is_to_the_end-clause-draws : goal.returns-then-is_to_the_end-clause-draws
returns-then-is_to_the_end-clause-draws g c =
    let n = length c.args.scene.place.now.paths in
    let m = running g.C.ShardCore.says c.args.stage.now.machine in
    let d = subst (λ ks. Adds (λ ts. AreToTheEnd m ks ts) c.args.stage.now.left c.args.stage.now.turns c.go_to_the_end.new.stage.turns c.go_to_the_end.result) (c.as_slice.ensures.value ∙ c.in_ok-named.ensures) c.go_to_the_end.ensures.draws in
    subst (λ P. Adds P c.args.stage.now.left c.args.stage.now.turns c.go_to_the_end.new.stage.turns c.go_to_the_end.result)
    (sym (end_is c.args.scene.place.now n m c.args.stopped.now c.args.ranks.now c.args.course.now (sym c.is_to_the_end.ensures ∙ c.if-is_to_the_end.true))) d

pub returns-else-is_to_the_end-clause-draws : goal.returns-else-is_to_the_end-clause-draws
returns-else-is_to_the_end-clause-draws g c =
    let n = length c.args.scene.place.now.paths in
    let place = c.args.scene.place.now in
    let m = running g.C.ShardCore.says c.args.stage.now.machine in
    let d = subst (λ ks. Adds (λ ts. AreOfCourse place m ks c.args.course.now ts) c.args.stage.now.left c.args.stage.now.turns c.draw_course.new.stage.turns c.draw_course.result) c.in_ok-named.ensures c.draw_course.ensures.draws in
    subst (λ P. Adds P c.args.stage.now.left c.args.stage.now.turns c.draw_course.new.stage.turns c.draw_course.result)
    (sym (course_is place n m c.args.stopped.now c.args.ranks.now c.args.course.now (sym c.is_to_the_end.ensures ∙ c.if-is_to_the_end.false))) d
