-- A step keeps all that is true of a machine.
use Rattle.std.proofs.Common.{sym, subst}
use Rattle.rl_machine.specs.Rested.{GoesRound}
use Rattle.rl_machine.specs.Running.{running}
use Rattle.rl_machine.specs.State.{machine_view}
use Rattle.rl_machine.specs.laws.StateSteps.{step_keeps}
use Rattle.rl_machine.proofs.machine.Machine.make_leg.Goals as goal

pub make_leg-requires-clause-shows : goal.make_leg-requires-clause-shows
make_leg-requires-clause-shows g c =
    subst (λ m. GoesRound g.C.Resting.with_sight (running g.C.ShardCore.says m) c.args.rank c.args.shard c.args.round 1) (sym c.self.view_is) c.requires.shows

pub invariant_of-self : goal.invariant_of-self
invariant_of-self g c =
    step_keeps g.C.ShardCore.says g.met.C.ShardCore.shard_laws _ _ c.self.view_is c.self.invariant c.args.rank c.requires.there (machine_view c.make_leg.new.state)
    c.make_leg.ensures.made c.make_leg.ensures.cores
