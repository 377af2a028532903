-- The second load is made from the view after the first; and two loads that lead back are a round.
use Rattle.std.proofs.Common.{sym, ◌∙◌}
use Rattle.rl_rank.specs.Running.{lock_at, good_at, tables, goods}
use Rattle.rl_rank.specs.laws.RoundLaws.{at_next, round_seen}
use Rattle.rl_rank.proofs.round.seen_round.Goals as goal

pub seen_leg-requires-2 : goal.seen_leg-requires-2
seen_leg-requires-2 g c =
    let core = c.args.core.now in
    at_next (lock_at (tables g.A.Algo.table g.W.Work.table) core) (good_at (goods g.A.Algo.good g.W.Work.good) core) (g.A.Algo.further core.algo) (g.A.Algo.layout core.algo) (record { lock = g.met.A.Algo.laws core.algo; work = g.met.W.Work.laws core.work }) core.home c.args.view.now c.requires.0 c.in-Free.is
    c.args.words.now c.requires.1 c.in_ok-here.here c.in_ok-here.ensures

pub returns-then-eq : goal.returns-then-eq
returns-then-eq g c =
    let core = c.args.core.now in
    λ k.
    round_seen (lock_at (tables g.A.Algo.table g.W.Work.table) core) (good_at (goods g.A.Algo.good g.W.Work.good) core) (g.A.Algo.further core.algo) (g.A.Algo.layout core.algo) (record { lock = g.met.A.Algo.laws core.algo; work = g.met.W.Work.laws core.work }) core.home c.args.view.now c.requires.0 c.in-Free.is
    c.args.words.now c.requires.1 c.in_ok-here.here c.in_ok-there.there c.in_ok-here.ensures c.in_ok-there.ensures (g.met.A.Algo.same_views c.in_ok-there.there.sight c.args.view.now.side.view (sym c.eq.ensures ∙ c.if-eq.true)) k
