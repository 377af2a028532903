-- The word is there, and its home is the table's.
use Rattle.std.proofs.Common.{ap, sym, ◌∙◌}
use Rattle.rl_rank.specs.Split.{word_home}
use Rattle.rl_rank.proofs.whole.Whole.plan_home.Goals as goal

pub spot-requires : goal.spot-requires
spot-requires g c = c.requires c.in-Some.word (sym c.in-Some.ensures)

pub returns-in-Some : goal.returns-in-Some
returns-in-Some g c = ap (λ z. z.home) c.spot.ensures ∙ ap (word_home (g.A.Algo.table c.args.self.now.algo)) c.in-Some.ensures

pub returns-in-None : goal.returns-in-None
returns-in-None g c = ap (word_home (g.A.Algo.table c.args.self.now.algo)) c.in-None.ensures
