-- Without an act a rank is in no card, or about to leave one, by the rule.
use Rattle.rl_word.specs.laws.Places.{get_map}
use Rattle.rl_rank.specs.Whole.{side_of}
use Rattle.rl_rank.specs.laws.KeptLaws.{free_without}
use Rattle.rl_rank.proofs.whole.Whole.after_none.Goals as goal

pub after_work-requires : goal.after_work-requires
after_work-requires g c =
    let x = c.args.view.now in
    let may = c.requires.may in
    let T = g.A.Algo.table c.args.self.now.algo in
    let still = may.plans.is_ruled.lock_part.still may.rank x.side (get_map side_of may.views may.rank x may.plans.has) in
    let free = free_without T _ (T.plan x.side.view) x.side.card still c.requires.act c.in_default.not-ToLeave in
    record { may = may; free = free.0; planned = free.1; none = c.requires.none }
