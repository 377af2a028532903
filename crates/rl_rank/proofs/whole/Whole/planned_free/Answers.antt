-- A view that may be plans an act that may be made, whose word is there, by the lock's laws.
use Rattle.std.proofs.Common.{ap, sym, ◌∙◌}
use Rattle.rl_rank.specs.declared.card_state.CardState.TheVariants.{Free}
use Rattle.rl_rank.specs.Running.{tables, goods}
use Rattle.rl_rank.specs.Split.{card_word}
use Rattle.rl_rank.specs.laws.HomeLaws.{asked_word}
use Rattle.rl_rank.specs.laws.OfCore.{both_laws}
use Rattle.rl_rank.specs.laws.WholeOwes.{may_step, plan_word_there}
use Rattle.rl_rank.proofs.whole.Whole.planned_free.Goals as goal

pub plan-act-requires : goal.plan-act-requires
plan-act-requires g c =
    let table = tables g.A.Algo.table g.W.Work.table in
    let core = c.args.self.now in
    may_step _ _ _ _ _ _ (both_laws table (goods g.A.Algo.good g.W.Work.good) g.A.Algo.further g.A.Algo.layout g.met.A.Algo.laws g.met.W.Work.laws core)
    core.home c.args.view.now c.requires.may

pub plan_home-home-requires : goal.plan_home-home-requires
plan_home-home-requires g c = λ word is.
    let table = tables g.A.Algo.table g.W.Work.table in
    let core = c.args.self.now in
    let x = c.args.view.now in
    plan_word_there _ _ _ _ _ _ (both_laws table (goods g.A.Algo.good g.W.Work.good) g.A.Algo.further g.A.Algo.layout g.met.A.Algo.laws
    g.met.W.Work.laws core) core.home x word c.requires.may
    (asked_word ((g.A.Algo.table core.algo).plan x.side.view) Free word (sym (ap (λ p. card_word p Free) c.plan-act.ensures) ∙ is))
