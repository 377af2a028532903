use Rattle.rl_place.proofs.ShapeLaws.{result-proper}
use Rattle.rl_place.proofs.place.Place.shape.Goals as goal

pub returns-clause-proper : goal.returns-clause-proper
returns-clause-proper c = result-proper c.args.self.now c.shape_in.result c.requires c.shape_in.ensures
