-- A rank in a card keeps its plan, whose home is the card's node, by the rule.
use Rattle.std.proofs.Common.{⊎_elim}
use Rattle.rl_word.specs.laws.Places.{get_map}
use Rattle.rl_rank.specs.laws.KeptLaws.{node_in, node_loaded}
use Rattle.rl_rank.specs.Whole.{side_of}
use Rattle.rl_rank.proofs.whole.Whole.card_node.Goals as goal

pub returns-in-InCard : goal.returns-in-InCard
returns-in-InCard g c =
    let x = c.args.view.now in
    let rule = c.requires.is_ruled in
    let keeps = rule.keeps c.requires.rank x c.requires.has in
    let still = rule.lock_part.still c.requires.rank x.side (get_map side_of c.requires.views c.requires.rank x c.requires.has) in
    ⊎_elim (λ is. node_in (g.A.Algo.table c.args.self.now.algo) _ x.side.view x.side.card x.kept is keeps still) (λ is. node_loaded (g.A.Algo.table c.args.self.now.algo) _ x.side.view x.side.card x.kept is.0 is.1 keeps still) c.in-InCard.is
