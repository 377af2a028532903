-- Each goal follows from the core's laws, at the view that the port has.
use Rattle.std.proofs.Common.{◌≡◌, ◌<◌, slice_get, slice_set, Some, refl, subst, sym, ◌∙◌, ap, length-set}
use Rattle.rl_word.specs.laws.Places.{one_at, get_set_same}
use Rattle.rl_step.specs.Core.{home_at, home_for}
use Rattle.rl_step.specs.laws.CoreLemmas.{card_word_there, lent_view, rule_after, performs_made}
use Rattle.rl_step.specs.Do.{CanDo}
use Rattle.rl_step.proofs.flat.FlatPortPort.perform.Goals as goal
use Rattle.rl_step.proofs.flat.FlatPortPort.perform.Goals.{in-Some, in-None}

pub home-home-requires : goal.home-home-requires
home-home-requires g c =
    let laws = g.met.C.Core.laws c.args.core.now in
    let plan = c.requires.planned in
    let there = card_word_there _ _ c.args.atom _ _ c.in-Some.word (laws.can _ _ _ _ _ (record { is_ruled = c.requires.fits.0; has = plan.1; planned = plan.2 })) (sym c.in-Some.ensures) in
    subst (λ n. c.in-Some.word < n) (laws.sized _ _ c.requires.fits.0) there

pub apply-got-requires : goal.apply-got-requires
apply-got-requires g c =
    let laws = g.met.C.Core.laws c.args.core.now in
    let plan = c.requires.planned in
    let table = g.C.Core.table c.args.core.now in
    let home : c.match-card_word.home ≡ home_at (g.C.Core.table c.args.core.now).home c.args.atom = elim c.match-card_word.branch [ in-Some w ↦ w.home-is ∙ w.home-home.ensures ∙ ap (home_for table.home) w.in-Some.ensures | in-None w ↦ w.home-is ∙ ap (home_for table.home) w.in-None.ensures ] in
    subst (λ h. CanDo h c.args.self.now.rank c.args.atom c.args.self.now.flat.now.words.words c.args.self.now.flat.now.words.cards) (sym home)
    (laws.can _ _ _ _ _ (record { is_ruled = c.requires.fits.0; has = plan.1; planned = plan.2 }))

pub after-requires-clause-may : goal.after-requires-clause-may
after-requires-clause-may g c =
    let plan = c.requires.planned in
    let same = lent_view c.args.self.now.flat.now.views.items c.args.self.now.rank _ plan.0 _ c.index_mut-view.ensures.value plan.1 in
    record {
      held = c.args.self.now.flat.now.words;
      views = c.args.self.now.flat.now.views.items;
      rank = c.args.self.now.rank;
      atom = c.args.atom;
      plans = record { is_ruled = c.requires.fits.0; has = plan.1 ∙ ap (λ z. Some z) (sym same); planned = ap (g.C.Core.table c.args.core.now).next same ∙ plan.2 };
      gives = c.apply-got.ensures.got;
    }

pub after-requires-clause-plan : goal.after-requires-clause-plan
after-requires-clause-plan g c =
    let plan = c.requires.planned in
    let same = lent_view c.args.self.now.flat.now.views.items c.args.self.now.rank _ plan.0 _ c.index_mut-view.ensures.value plan.1 in
    plan.3 ∙ ap (g.C.Core.plan_of c.args.core.now) (sym same)

pub returns-clause-fits : goal.returns-clause-fits
returns-clause-fits g c =
    let plan = c.requires.planned in
    let same = lent_view c.args.self.now.flat.now.views.items c.args.self.now.rank _ plan.0 _ c.index_mut-view.ensures.value plan.1 in (
      rule_after (g.C.Core.table c.args.core.now) (g.C.Core.rule c.args.core.now) (g.met.C.Core.laws c.args.core.now) c.args.self.now.flat.now.words c.apply-got.new.self
          c.args.self.now.flat.now.views.items c.args.self.now.rank _ plan.0 c.after.new.view c.args.atom c.apply-got.result
          (record { is_ruled = c.requires.fits.0; has = plan.1; planned = plan.2 }) same c.apply-got.ensures.window c.apply-got.ensures.got c.apply-got.type_inv (ap (λ t. t.view) c.after.ensures),
      subst (λ n. c.args.self.now.rank < n) (sym (length-set c.args.self.now.flat.now.views.items c.args.self.now.rank c.after.new.view)) c.requires.fits.1,
    )

pub returns-clause-frame : goal.returns-clause-frame
returns-clause-frame g c = (
  refl,
  refl,
  λ w e.
      ap (slice_set c.args.self.now.flat.now.views.items c.args.self.now.rank)
      (one_at (slice_set c.args.self.now.flat.now.views.items c.args.self.now.rank c.after.new.view) c.args.self.now.rank _ _
      (get_set_same c.args.self.now.flat.now.views.items c.args.self.now.rank c.requires.planned.0 c.after.new.view c.requires.planned.1) e),
)

pub returns-clause-made : goal.returns-clause-made
returns-clause-made g c = λ v w sv sw.
    let plan = c.requires.planned in
    let same = lent_view c.args.self.now.flat.now.views.items c.args.self.now.rank _ v _ c.index_mut-view.ensures.value sv in
    let here : slice_get c.args.self.now.flat.now.views.items c.args.self.now.rank ≡ Some plan.0 = plan.1 in
    let set : w ≡ c.after.new.view =
    one_at (slice_set c.args.self.now.flat.now.views.items c.args.self.now.rank c.after.new.view) c.args.self.now.rank _ _ sw
    (get_set_same c.args.self.now.flat.now.views.items c.args.self.now.rank v c.after.new.view sv) in
    performs_made (g.C.Core.table c.args.core.now) (g.C.Core.rule c.args.core.now) c.args.self.now.flat.now.words c.apply-got.new.self
    c.args.self.now.flat.now.views.items c.args.self.now.rank c.index_mut-view.result.now v c.after.new.view w c.args.atom c.apply-got.result c.after.new.events.items c.after.result
    (record { is_ruled = c.requires.fits.0; has = sv; planned = ap (g.C.Core.table c.args.core.now).next (one_at c.args.self.now.flat.now.views.items c.args.self.now.rank _ _ sv here) ∙ plan.2 })
    same set c.apply-got.ensures.window c.apply-got.ensures.got (ap (λ t. t.view) c.after.ensures) (ap (λ t. t.events) c.after.ensures) (ap (λ t. t.stepped) c.after.ensures)
