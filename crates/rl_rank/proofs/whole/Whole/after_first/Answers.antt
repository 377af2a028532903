-- What the calls of the lock ask follows from the rule, by the lock's laws.
use Rattle.std.proofs.Common.{sym, ◌∙◌, ap}
use Rattle.rl_step.specs.Core.{turned_with}
use Rattle.rl_step.specs.Lock.{told_as}
use Rattle.rl_rank.specs.declared.card_state.CardState.TheVariants.{Free}
use Rattle.rl_rank.specs.declared.effect.Effect.TheVariants.{Learn}
use Rattle.rl_rank.specs.Running.{lock_at, tables, goods}
use Rattle.rl_rank.specs.laws.KeptLaws.{works_none, learns_free}
use Rattle.rl_rank.specs.laws.OfCore.{both_laws}
use Rattle.rl_rank.proofs.AtomLaws.{with_side, learns, holder_there, learn_there, answer_there}
use Rattle.rl_rank.proofs.whole.Whole.after_first.Goals as goal

pub effect-requires : goal.effect-requires
effect-requires g c =
    let table = tables g.A.Algo.table g.W.Work.table in
    let core = c.args.self.now in
    holder_there (lock_at table core) c.args.view.now Free c.args.plan c.requires.free c.requires.plan c.args.got
    (both_laws table (goods g.A.Algo.good g.W.Work.good) g.A.Algo.further g.A.Algo.layout g.met.A.Algo.laws g.met.W.Work.laws core)
    core.home c.requires.may

pub learn-waits-requires-clause-may : goal.learn-waits-requires-clause-may
learn-waits-requires-clause-may g c =
    let table = tables g.A.Algo.table g.W.Work.table in
    let core = c.args.self.now in
    learn_there (lock_at table core) c.args.view.now Free c.args.plan c.requires.free c.requires.plan c.args.got
    (both_laws table (goods g.A.Algo.good g.W.Work.good) g.A.Algo.further g.A.Algo.layout g.met.A.Algo.laws g.met.W.Work.laws core)
    core.home c.requires.may c.effect.result c.effect.ensures c.in-Learn.card c.in-Learn.told c.in-Learn.lost c.in-Learn.is

pub shift_answer-requires : goal.shift_answer-requires
shift_answer-requires g c =
    let table = tables g.A.Algo.table g.W.Work.table in
    let core = c.args.self.now in
    answer_there (lock_at table core) c.args.view.now Free c.args.plan c.requires.free c.requires.plan c.args.got
    (both_laws table (goods g.A.Algo.good g.W.Work.good) g.A.Algo.further g.A.Algo.layout g.met.A.Algo.laws g.met.W.Work.laws core)
    core.home c.requires.may c.effect.result c.effect.ensures c.in-Learn.card c.in-Learn.told c.in-Learn.lost c.in-Learn.is
    c.learn-waits.result c.answer.result c.answer.ensures

pub returns-in-Learn : goal.returns-in-Learn
returns-in-Learn g c =
    let L = lock_at (tables g.A.Algo.table g.W.Work.table) c.args.self.now in
    let x = c.args.view.now in
    let out = learns_free c.args.plan.home c.args.plan.act c.args.got c.in-Learn.card c.in-Learn.told c.in-Learn.lost
    (sym c.effect.ensures ∙ c.in-Learn.is) in
    ap (λ h. turned_with (with_side x c.learn-waits.new.view h x.kept) c.learn-waits.new.events.items c.shift_answer.result) c.requires.free
    ∙ learns L x Free c.args.plan c.requires.free c.requires.plan
    c.args.got c.effect.result c.effect.ensures Free c.in-Learn.told c.in-Learn.lost
    (c.in-Learn.is ∙ ap (λ h. Learn h c.in-Learn.told c.in-Learn.lost) out)
    (told_as c.learn-waits.new.view c.learn-waits.new.events.items c.learn-waits.result) c.answer.result c.shift_answer.result
    c.learn-waits.ensures c.answer.ensures c.shift_answer.ensures

-- an act's atom is none of the work
pub returns-in-Work : goal.returns-in-Work
returns-in-Work g c =
    absurd (c.requires.act (works_none c.args.plan.home c.args.plan.act c.args.got (sym c.effect.ensures ∙ c.in-Work.is)))
