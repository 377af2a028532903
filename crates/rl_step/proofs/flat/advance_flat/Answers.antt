use Rattle.std.proofs.Common.{◌≡◌, subst, sym, ◌<◌, length, rules, slice_get, Some}
use Rattle.rl_word.specs.declared.acts.Atom.{Atom}
use Rattle.rl_step.specs.Core.{MadeFlat}
use Rattle.rl_step.specs.laws.CoreLemmas.{made_flat}
use Rattle.rl_step.proofs.flat.advance_flat.Goals as goal
use Rattle.rl_step.proofs.flat.advance_flat.Goals.{After-advance}
use Rattle.rl_step.proofs.flat.advance_flat.Given.{Over}

made : (g : Over) (c : After-advance g) (v : g.row.C-View.Denot) (at : Atom) → slice_get c.args.flat.now.views.items c.args.rank ≡ Some v → (g.C.Core.table c.args.core.now).next v ≡ Some at →
    MadeFlat (g.C.Core.table c.args.core.now) c.args.flat.now.words c.advance.new.port.flat.now.words c.args.flat.now.views.items c.advance.new.port.flat.now.views.items c.args.rank v at
    c.advance.new.events.items c.advance.result
made g c v at has next =
    let ws = c.advance.new.port.flat.now.views.items in
    let same : c.advance.new.port.rank ≡ c.args.rank = c.advance.ensures.frame.1 in
    made_flat (g.C.Core.table c.args.core.now) (g.C.Core.rule c.args.core.now) _ _ c.args.flat.now.views.items ws c.args.rank v at _ _
    (λ x y b p q e. c.advance.ensures.made x y b p (subst (λ k. slice_get ws k ≡ Some y) (sym same) q) e)
    (λ y q. c.advance.ensures.frame.2 y (subst (λ k. slice_get ws k ≡ Some y) (sym same) q))
    (subst (λ k. k < length ws) same c.advance.ensures.fits.1) has next

pub returns-clause-words : goal.returns-clause-words
returns-clause-words g c = λ v at has next. let m = made g (goal.at.returns-clause-words g c).After-advance v at has next in let k = m.held in search rules

pub returns-clause-views : goal.returns-clause-views
returns-clause-views g c = λ v at has next. let m = made g (goal.at.returns-clause-views g c).After-advance v at has next in let k = m.views in search rules

pub returns-clause-answer : goal.returns-clause-answer
returns-clause-answer g c = λ v at has next. (made g (goal.at.returns-clause-answer g c).After-advance v at has next).answer
