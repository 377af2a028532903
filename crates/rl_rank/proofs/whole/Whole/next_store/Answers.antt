-- What is kept is the view's plan, by the rule, and so it has an act.
use Rattle.std.proofs.Common.{Some, sym}
use Rattle.rl_word.specs.laws.Places.{get_map}
use Rattle.rl_rank.specs.declared.card_state.CardState.TheVariants.{Loaded}
use Rattle.rl_rank.specs.Running.{lock_at, tables, goods}
use Rattle.rl_rank.specs.Whole.{side_of, planned_in}
use Rattle.rl_rank.specs.laws.KeptLaws.{kept_loaded, acts_loaded}
use Rattle.rl_rank.specs.laws.OfCore.{both_laws}
use Rattle.rl_rank.specs.laws.WholeOwes.{shifts}
use Rattle.rl_rank.proofs.AtomLaws.{lock_atom, next_is}
use Rattle.rl_rank.proofs.whole.Whole.next_store.Goals as goal

pub shift-requires : goal.shift-requires
shift-requires g c =
    let table = tables g.A.Algo.table g.W.Work.table in
    let core = c.args.self.now in
    let x = c.args.view.now in
    let keeps = c.requires.may.is_ruled.keeps c.requires.may.rank x c.requires.may.has in
    let kept = kept_loaded x.side.card c.args.value (planned_in (g.A.Algo.table core.algo) x) x.kept c.requires.within keeps in
    shifts _ _ _ _ _ _ (both_laws table (goods g.A.Algo.good g.W.Work.good) g.A.Algo.further g.A.Algo.layout g.met.A.Algo.laws g.met.W.Work.laws core)
    core.home x c.in-Some.atom c.requires.may
    (sym (lock_atom (lock_at table core) x (Loaded c.args.value) x.kept c.requires.within kept (Some c.in-Some.atom) c.in-Some.ensures))

pub returns-in-Some-clause-atom : goal.returns-in-Some-clause-atom
returns-in-Some-clause-atom g c =
    let core = c.args.self.now in
    let x = c.args.view.now in
    let keeps = c.requires.may.is_ruled.keeps c.requires.may.rank x c.requires.may.has in
    let kept = kept_loaded x.side.card c.args.value (planned_in (g.A.Algo.table core.algo) x) x.kept c.requires.within keeps in
    next_is (lock_at (tables g.A.Algo.table g.W.Work.table) core) x (Loaded c.args.value) x.kept c.requires.within kept
    c.in-Some.atom c.shift.result c.in-Some.ensures c.shift.ensures

pub returns-in-Some-clause-plan : goal.returns-in-Some-clause-plan
returns-in-Some-clause-plan g c =
    let x = c.args.view.now in
    let keeps = c.requires.may.is_ruled.keeps c.requires.may.rank x c.requires.may.has in
    kept_loaded x.side.card c.args.value (planned_in (g.A.Algo.table c.args.self.now.algo) x) x.kept c.requires.within keeps

pub returns-in-None-clause-atom : goal.returns-in-None-clause-atom
returns-in-None-clause-atom g c =
    let may = c.requires.may in
    let x = c.args.view.now in
    let keeps = may.is_ruled.keeps may.rank x may.has in
    let still = may.is_ruled.lock_part.still may.rank x.side (get_map side_of may.views may.rank x may.has) in
    absurd
    (acts_loaded (g.A.Algo.table c.args.self.now.algo) _ x.side.view x.side.card x.kept c.args.value c.requires.within keeps still
    (sym c.in-None.ensures))
