-- The chosen one of the ranks so far.
use Rattle.rl_machine.specs.laws.Choosing.{AreBest}
use Rattle.rl_machine.proofs.machine.guiding.chosen_on.Given as goal

abbrev pub invariant-loop-rank : goal.invariant-loop-rank
invariant-loop-rank g l = AreBest (g.C.ShardGuiding.urgent l.shard.core l.shard.flat.words.words) l.shard.flat.views.items l.rank l.chosen
