use Rattle.rl_making.proofs.MadePlaceLaws.{place-made}
use Rattle.rl_making.proofs.generating.place_of.Goals as goal

pub returns : goal.returns
returns c = place-made c.args.ranks c.div_ceil-nodes.result c.in_ok-paths_of.field-0.items c.in_ok-homes_on.field-0.items c.div_ceil-nodes.ensures c.in_ok-paths_of.ensures c.in_ok-homes_on.ensures
