-- One step more, of the rank that was drawn.
use Rattle.std.proofs.Common.{◌≡◌, ◌+◌, ◌-◌, suc, length, refl, sym, subst, arith}
use Rattle.std.proofs.lemmas.Result.{err_from_is_err_and}
use Rattle.rl_chance.specs.Draws.{first_state}
use Rattle.rl_drawing.specs.Drawing.{drawn_turns}
use Rattle.rl_drawing.specs.Leads.{Leads}
use Rattle.rl_drawing.proofs.Leading.{leads_none, drawn_on, drawn_fail, drawn_end}
use Rattle.rl_drawing.proofs.Stages.{same_left}
use Rattle.rl_drawing.proofs.laps.go_at_random.Goals as goal

pub loop-init : goal.loop-init
loop-init g c =
    let all : c.args.count ≡ c.args.count - 0 = omega arith in
    let x = c.args.stage.now.turns in
    let ks = c.args.ranks.now in
    let n = c.args.count in
    let s = first_state c.args.seed in
    let begins : first_state c.args.seed ≡ c.new-generator.result.state = sym c.new-generator.ensures in (
      c.requires.stage,
      subst (λ t. Leads (λ ts. ts ≡ drawn_turns s n ks) (λ ts. ts ≡ drawn_turns t (n - 0) ks) x x) begins
          (subst (λ i. Leads (λ ts. ts ≡ drawn_turns s n ks) (λ ts. ts ≡ drawn_turns s i ks) x x) all (leads_none (λ ts. ts ≡ drawn_turns s n ks) x)),
    )

pub loop-preserved : goal.loop-preserved
loop-preserved g c =
    let n = c.args.count in
    let i = c.loop.counter in
    let ks = c.args.ranks.now in
    let next : n - i ≡ suc (n - (i + 1)) = omega arith in
    let d = c.in_ok-go_one.ensures.draws in (
      c.in_ok-go_one.ensures.stage,
      drawn_on (λ ts. ts ≡ drawn_turns (first_state c.args.seed) n ks) c.loop.generator.state (n - i) (n - (i + 1)) (length ks) c.draw-drawn.result c.draw-drawn.new.self.state ks c.args.stage.now.turns c.loop.stage.turns c.go_one.new.stage.turns d.0
          next refl c.draw-drawn.ensures.drawn c.loop.invariant.1 d.1 d.2,
    )

pub returns-in_err-go_one-clause-draws : goal.returns-in_err-go_one-clause-draws
returns-in_err-go_one-clause-draws g c =
    let p = err_from_is_err_and c.from_residual.result c.from_residual.ensures.1 in
    let n = c.args.count in
    let i = c.loop.counter in
    let ks = c.args.ranks.now in
    let next : n - i ≡ suc (n - (i + 1)) = omega arith in
    let same = same_left g.C.ShardCore.says g.C.ShardCore.defined c.args.scene c.args.stage.now c.requires.stage c.loop.stage c.loop.invariant.0 in
    rw (p.1, p.2) (drawn_fail (Unit {0}) (Unit {0}) (λ ts. ts ≡ drawn_turns (first_state c.args.seed) n ks) c.loop.generator.state (n - i) (n - (i + 1)) (length ks) c.draw-drawn.result c.draw-drawn.new.self.state ks
    c.args.stage.now.turns c.loop.stage.turns c.go_one.new.stage.turns c.go_one.new.stage.turns c.args.stage.now.left c.loop.stage.left c.in_err-go_one.field-0.0 next refl c.draw-drawn.ensures.drawn c.loop.invariant.1 same c.in_err-go_one.ensures.draws)

pub returns-clause-draws : goal.returns-clause-draws
returns-clause-draws g c =
    let n = c.args.count in
    let i = c.loop.counter in
    let ks = c.args.ranks.now in
    let none : n - i ≡ 0 = omega arith in
    drawn_end (λ ts. ts ≡ drawn_turns (first_state c.args.seed) n ks) c.loop.generator.state (n - i) ks c.args.stage.now.turns c.loop.stage.turns none c.loop.invariant.1
