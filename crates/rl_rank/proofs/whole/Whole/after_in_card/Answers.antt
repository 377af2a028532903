-- What the calls of the lock ask follows from the rule, by the lock's laws.
use Rattle.std.proofs.Common.{sym, ◌∙◌}
use Rattle.rl_word.specs.laws.Places.{get_map}
use Rattle.rl_step.specs.Lock.{told_as}
use Rattle.rl_rank.specs.Running.{lock_at, tables, goods}
use Rattle.rl_rank.specs.Whole.{side_of}
use Rattle.rl_rank.specs.laws.KeptLaws.{works_free, same_kept}
use Rattle.rl_rank.specs.laws.OfCore.{both_laws}
use Rattle.rl_rank.proofs.AtomLaws.{the_effect, stays, learns, holder_there, learn_there, answer_there}
use Rattle.rl_rank.proofs.whole.Whole.after_in_card.Goals as goal

pub effect-requires : goal.effect-requires
effect-requires g c =
    let table = tables g.A.Algo.table g.W.Work.table in
    let core = c.args.self.now in
    holder_there (lock_at table core) c.args.view.now c.args.here c.args.view.now.kept c.requires.here c.requires.kept c.args.got
    (both_laws table (goods g.A.Algo.good g.W.Work.good) g.A.Algo.further g.A.Algo.layout g.met.A.Algo.laws g.met.W.Work.laws core)
    core.home c.requires.may

pub learn-waits-requires-clause-may : goal.learn-waits-requires-clause-may
learn-waits-requires-clause-may g c =
    let table = tables g.A.Algo.table g.W.Work.table in
    let core = c.args.self.now in
    learn_there (lock_at table core) c.args.view.now c.args.here c.args.view.now.kept c.requires.here c.requires.kept c.args.got
    (both_laws table (goods g.A.Algo.good g.W.Work.good) g.A.Algo.further g.A.Algo.layout g.met.A.Algo.laws g.met.W.Work.laws core)
    core.home c.requires.may c.effect.result c.effect.ensures c.in-Learn.card c.in-Learn.told c.in-Learn.lost c.in-Learn.is

pub shift_answer-requires : goal.shift_answer-requires
shift_answer-requires g c =
    let table = tables g.A.Algo.table g.W.Work.table in
    let core = c.args.self.now in
    answer_there (lock_at table core) c.args.view.now c.args.here c.args.view.now.kept c.requires.here c.requires.kept c.args.got
    (both_laws table (goods g.A.Algo.good g.W.Work.good) g.A.Algo.further g.A.Algo.layout g.met.A.Algo.laws g.met.W.Work.laws core)
    core.home c.requires.may c.effect.result c.effect.ensures c.in-Learn.card c.in-Learn.told c.in-Learn.lost c.in-Learn.is
    c.learn-waits.result c.answer.result c.answer.ensures

pub returns-in-Stay : goal.returns-in-Stay
returns-in-Stay g c =
    stays (lock_at (tables g.A.Algo.table g.W.Work.table) c.args.self.now) c.args.view.now c.args.here c.args.view.now.kept c.requires.here c.requires.kept
    c.args.got c.effect.result c.effect.ensures c.in-Stay.card c.in-Stay.stepped _ c.args.view.now.kept c.in-Stay.is c.requires.none
    (same_kept c.in-Stay.card c.args.view.now.kept)

pub returns-in-Learn : goal.returns-in-Learn
returns-in-Learn g c =
    learns (lock_at (tables g.A.Algo.table g.W.Work.table) c.args.self.now) c.args.view.now c.args.here c.args.view.now.kept c.requires.here c.requires.kept
    c.args.got c.effect.result c.effect.ensures c.in-Learn.card c.in-Learn.told c.in-Learn.lost c.in-Learn.is
    (told_as c.learn-waits.new.view c.learn-waits.new.events.items c.learn-waits.result) c.answer.result c.shift_answer.result
    c.learn-waits.ensures c.answer.ensures c.shift_answer.ensures

-- in a card no atom is one of the work
pub returns-in-Work : goal.returns-in-Work
returns-in-Work g c =
    let L = lock_at (tables g.A.Algo.table g.W.Work.table) c.args.self.now in
    let x = c.args.view.now in
    let may = c.requires.may in
    let still = may.plans.is_ruled.lock_part.still may.rank x.side (get_map side_of may.views may.rank x may.plans.has) in
    let works = the_effect L x c.args.here c.args.view.now.kept c.requires.here c.requires.kept c.args.got c.effect.result c.effect.ensures ∙ c.in-Work.is in
    absurd (c.requires.within (sym c.requires.here ∙ works_free _ _ (L.table.plan x.side.view) x.side.card c.args.got still works))
