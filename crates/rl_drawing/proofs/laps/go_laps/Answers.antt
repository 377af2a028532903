-- One lap more.
use Rattle.std.proofs.Common.{◌≡◌, ◌+◌, ◌-◌, suc, subst, arith}
use Rattle.std.proofs.lemmas.Result.{err_from_is_err_and}
use Rattle.rl_machine.specs.Running.{running}
use Rattle.rl_drawing.specs.Drawing.{laps}
use Rattle.rl_drawing.specs.Leads.{Leads}
use Rattle.rl_drawing.proofs.Leading.{leads_none, laps_on, laps_fail, laps_end}
use Rattle.rl_drawing.proofs.Stages.{same_left}
use Rattle.rl_drawing.proofs.laps.go_laps.Goals as goal

pub loop-init : goal.loop-init
loop-init g c =
    let all : c.args.count ≡ c.args.count - 0 = omega arith in
    let x = c.args.stage.now.turns in
    let ks = c.args.ranks.now in
    let n = c.args.count in
    (c.requires.stage, subst (λ i. Leads (λ ts. ts ≡ laps n ks) (λ ts. ts ≡ laps i ks) x x) all (leads_none (λ ts. ts ≡ laps n ks) x))

pub loop-preserved : goal.loop-preserved
loop-preserved g c =
    let n = c.args.count in
    let i = c.loop.counter in
    let ks = c.args.ranks.now in
    let next : n - i ≡ suc (n - (i + 1)) = omega arith in (
      c.in_ok-go_each.ensures.stage,
      laps_on c.args.scene.place.now (λ ts. ts ≡ laps n ks) (running g.C.ShardCore.says c.loop.stage.machine) ks (n - i) (n - (i + 1)) c.args.stage.now.turns c.loop.stage.turns c.go_each.new.stage.turns next c.loop.invariant.1 c.in_ok-go_each.ensures.draws,
    )

pub returns-in_err-go_each-clause-draws : goal.returns-in_err-go_each-clause-draws
returns-in_err-go_each-clause-draws g c =
    let p = err_from_is_err_and c.from_residual.result c.from_residual.ensures.1 in
    let m = running g.C.ShardCore.says c.loop.stage.machine in
    let n = c.args.count in
    let i = c.loop.counter in
    let ks = c.args.ranks.now in
    let next : n - i ≡ suc (n - (i + 1)) = omega arith in
    let same = same_left g.C.ShardCore.says g.C.ShardCore.defined c.args.scene c.args.stage.now c.requires.stage c.loop.stage c.loop.invariant.0 in
    rw (p.1, p.2) (laps_fail (Unit {0}) (Unit {0}) c.args.scene.place.now (λ ts. ts ≡ laps n ks) m ks (n - i) (n - (i + 1)) c.args.stage.now.left c.loop.stage.left c.args.stage.now.turns c.loop.stage.turns c.go_each.new.stage.turns c.go_each.new.stage.turns c.in_err-go_each.field-0.0
    next c.loop.invariant.1 same c.in_err-go_each.ensures.draws)

pub returns-clause-draws : goal.returns-clause-draws
returns-clause-draws g c =
    let n = c.args.count in
    let i = c.loop.counter in
    let ks = c.args.ranks.now in
    let none : n - i ≡ 0 = omega arith in
    laps_end (λ ts. ts ≡ laps n ks) ks (n - i) c.args.stage.now.turns c.loop.stage.turns none c.loop.invariant.1
