-- Where the lock does no batches there is none.
use Rattle.rl_inputs.proofs.SuitLaws.{sizes_suit}
use Rattle.rmalock.proofs.trials.run.Goals as goal

pub new-requires-clause-batches : goal.new-requires-clause-batches
new-requires-clause-batches g c = sizes_suit c.args.place.now c.args.ops g.C.ShardCore.batches c.requires.batches c.requires.suits
