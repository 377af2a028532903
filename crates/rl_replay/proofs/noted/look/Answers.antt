-- What is noted of the rank is true, and so is what was noted of the others.
use Rattle.rl_machine.specs.Running.{running}
use Rattle.rl_replay.specs.laws.RestedLaws.{all_set}
use Rattle.rl_replay.proofs.noted.look.Goals as goal

pub returns-clause-rested : goal.returns-clause-rested
returns-clause-rested g c = all_set g.C.Resting.with_sight (running g.C.ShardCore.says c.args.machine.now) c.args.rests.now.items c.args.rank c.rest_after.result c.rest_after.ensures c.requires.rested
