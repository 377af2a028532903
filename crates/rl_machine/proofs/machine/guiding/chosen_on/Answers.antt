-- One rank after the other is looked at.
use Rattle.std.proofs.Common.{sym, subst, arith}
use Rattle.rl_machine.specs.laws.Choosing.{AreBest, all_chosen}
use Rattle.rl_machine.proofs.machine.guiding.chosen_on.Goals as goal

pub urgency-urgency-requires : goal.urgency-urgency-requires
urgency-urgency-requires g c =
    let s = c.args.shard.now in
    let good = c.requires.good in
    let ruled = g.met.C.ShardCore.ruled s.core _ good.is_good in
    (record { held = s.flat.words; views = s.flat.views.items; rank = c.loop-rank.rank; is_ruled = ruled; has = c.view.ensures }, sym c.words.ensures)

pub returns-in-Some-clause-chosen : goal.returns-in-Some-clause-chosen
returns-in-Some-clause-chosen g c =
    let s = c.args.shard.now in
    let u = g.C.ShardGuiding.urgent s.core s.flat.words.words in
    let views = s.flat.views.items in
    let all = c.requires.ranks in
    let best = subst (AreBest u views c.loop-rank.rank) c.in-Some.is c.loop-rank.invariant in
    all_chosen u views c.loop-rank.rank c.in-Some.best (omega arith) best
