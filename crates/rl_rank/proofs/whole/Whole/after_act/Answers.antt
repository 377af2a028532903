-- What a rank in a card keeps is its plan, by the rule.
use Rattle.rl_rank.specs.Whole.{planned_in}
use Rattle.rl_rank.specs.laws.KeptLaws.{kept_in, kept_loaded}
use Rattle.rl_rank.proofs.whole.Whole.after_act.Goals as goal

pub after_in_card-requires-clause-kept : goal.after_in_card-requires-clause-kept
after_in_card-requires-clause-kept g c =
    let x = c.args.view.now in
    let may = c.requires.may in
    kept_in x.side.card (planned_in (g.A.Algo.table c.args.self.now.algo) x) x.kept c.in-InCard.is
    (may.plans.is_ruled.keeps may.rank x may.plans.has)

pub after_in_card-requires-in-Loaded-clause-kept : goal.after_in_card-requires-in-Loaded-clause-kept
after_in_card-requires-in-Loaded-clause-kept g c =
    let x = c.args.view.now in
    let may = c.requires.may in
    kept_loaded x.side.card c.in-Loaded.value (planned_in (g.A.Algo.table c.args.self.now.algo) x) x.kept c.in-Loaded.is
    (may.plans.is_ruled.keeps may.rank x may.plans.has)
