-- What is true of a machine's shards is true of each.
use Rattle.std.proofs.Common.{refl}
use Rattle.rl_machine.specs.laws.JournalAt.{few_ranks}
use Rattle.rl_machine.specs.laws.StateLaws.{IsThere, read_there}
use Rattle.rl_machine.proofs.state.MachineState.shard.Goals as goal
use Rattle.rl_machine.proofs.state.MachineState.shard.Goals.{After-index}
use Rattle.rl_machine.proofs.state.MachineState.shard.Given.{Over}

there : (g : Over) (c : After-index g) → IsThere g.C.ShardCore.says c.args.self.now c.requires.good c.args.shard c.index.result.now
there g c = read_there g.C.ShardCore.says c.args.self.now c.requires.good c.args.self.now.shards.items c.args.shard c.index.result.now refl c.requires.there c.index.ensures

pub returns-clause-has : goal.returns-clause-has
returns-clause-has g c = (there g (goal.at.returns-clause-has g c).After-index).has

pub returns-clause-core : goal.returns-clause-core
returns-clause-core g c = (there g (goal.at.returns-clause-core g c).After-index).has_core

pub returns-clause-ranks : goal.returns-clause-ranks
returns-clause-ranks g c = (there g (goal.at.returns-clause-ranks g c).After-index).ranks

pub returns-clause-good : goal.returns-clause-good
returns-clause-good g c = (there g (goal.at.returns-clause-good g c).After-index).is_good

pub returns-clause-few : goal.returns-clause-few
returns-clause-few g c = few_ranks g.C.ShardCore.says g.met.C.ShardCore.shard_laws c.index.result.now (there g (goal.at.returns-clause-few g c).After-index).is_good
