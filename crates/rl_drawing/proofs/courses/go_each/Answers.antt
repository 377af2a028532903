-- The turn of the next rank is added.
use Rattle.std.proofs.Common.{◌≡◌, ◌+◌, [], ◌∷◌, drop, suc, get_or, ap, subst, ◌∙◌, arith}
use Rattle.std.proofs.Math.Seq.{drop-cons}
use Rattle.std.proofs.lemmas.List.{at_drop_all}
use Rattle.std.proofs.lemmas.Result.{err_from_is_err_and}
use Rattle.rl_machine.specs.Running.{running}
use Rattle.rl_drawing.specs.Drawing.{AreEach}
use Rattle.rl_drawing.specs.Leads.{IsOf, IsNone, Leads}
use Rattle.rl_drawing.proofs.Leading.{leads_none, leads_as, each_on, each_fails}
use Rattle.rl_drawing.proofs.Stages.{moved_by, same_left}
use Rattle.rl_drawing.proofs.courses.go_each.Goals as goal

pub loop-rank-init : goal.loop-rank-init
loop-rank-init g c = (c.requires.stage, leads_none _ c.args.stage.now.turns)

pub loop-rank-preserved : goal.loop-rank-preserved
loop-rank-preserved g c =
    let Is = IsOf c.args.scene.place.now c.args.each in
    let m = running g.C.ShardCore.says c.loop-rank.stage.machine in
    let now = running g.C.ShardCore.says c.go_one.new.stage.machine in
    let ks = c.args.ranks.now in
    let i = c.loop-rank.rank-index in
    let one : suc i ≡ i + 1 = omega arith in
    let next : drop i ks ≡ get_or ks i 0 ∷ drop (i + 1) ks = drop-cons ks i 0 c.loop-rank-test.true ∙ ap (λ n. get_or ks i 0 ∷ drop n ks) one in
    let d = c.in_ok-go_one.ensures.draws in
    let run = moved_by g.C.ShardCore.defined c.args.scene.place.now c.args.scene.ops.now m now c.loop-rank.stage.turns c.go_one.new.stage.turns d.0 c.loop-rank.stage.left c.go_one.new.stage.left c.loop-rank.invariant.0 c.in_ok-go_one.ensures.stage d.1 in (
      c.in_ok-go_one.ensures.stage,
      each_on Is (AreEach Is (running g.C.ShardCore.says c.args.stage.now.machine) ks) m now (get_or ks i 0) (drop i ks) (drop (i + 1) ks) c.args.stage.now.turns c.loop-rank.stage.turns c.go_one.new.stage.turns d.0 next c.loop-rank.invariant.1 d.1 d.2 d.3 run,
    )

pub returns-in_err-go_one-clause-draws : goal.returns-in_err-go_one-clause-draws
returns-in_err-go_one-clause-draws g c =
    let p = err_from_is_err_and c.from_residual.result c.from_residual.ensures.1 in
    let place = c.args.scene.place.now in
    let first = running g.C.ShardCore.says c.args.stage.now.machine in
    let m = running g.C.ShardCore.says c.loop-rank.stage.machine in
    let ks = c.args.ranks.now in
    let i = c.loop-rank.rank-index in
    let one : suc i ≡ i + 1 = omega arith in
    let next : drop i ks ≡ get_or ks i 0 ∷ drop (i + 1) ks = drop-cons ks i 0 c.loop-rank-test.true ∙ ap (λ n. get_or ks i 0 ∷ drop n ks) one in
    let same = same_left g.C.ShardCore.says g.C.ShardCore.defined c.args.scene c.args.stage.now c.requires.stage c.loop-rank.stage c.loop-rank.invariant.0 in
    rw (p.1, p.2) (each_fails (IsOf place c.args.each) (Unit {0}) (Unit {0}) (AreEach (IsOf place c.args.each) first ks) m (get_or ks i 0) (drop i ks) (drop (i + 1) ks) c.args.stage.now.turns c.loop-rank.stage.turns c.go_one.new.stage.turns c.go_one.new.stage.turns
    c.args.stage.now.left c.loop-rank.stage.left c.in_err-go_one.field-0.0 next c.loop-rank.invariant.1 same c.in_err-go_one.ensures.draws)

pub returns-clause-draws : goal.returns-clause-draws
returns-clause-draws g c =
    let Is = IsOf c.args.scene.place.now c.args.each in
    let whole = AreEach Is (running g.C.ShardCore.says c.args.stage.now.machine) c.args.ranks.now in
    let now = running g.C.ShardCore.says c.loop-rank.stage.machine in
    let none = at_drop_all (λ z. z) c.args.ranks.now c.loop-rank.rank-index c.loop-rank-test.false in
    leads_as whole (AreEach Is now []) IsNone c.args.stage.now.turns c.loop-rank.stage.turns
    (subst (λ js. Leads whole (AreEach Is now js) c.args.stage.now.turns c.loop-rank.stage.turns) none c.loop-rank.invariant.1) (λ more r. r) (λ more r. r)
