-- A block that is opened keeps all that is true of a machine, and the rank's next step.
use Rattle.rl_machine.specs.State.{machine_view}
use Rattle.rl_machine.specs.laws.StateSteps.{open_keeps, opened_told, opened_calls_told, opened_steps_told, same_step_told, same_answer_told}
use Rattle.rl_machine.proofs.machine.Machine.open_next.Goals as goal

pub invariant_of-self : goal.invariant_of-self
invariant_of-self g c =
    open_keeps g.C.ShardCore.says g.met.C.ShardCore.shard_laws _ _ c.self.view_is c.self.invariant c.args.rank c.requires.there (machine_view c.open_next.new.state)
    c.open_next.ensures.made c.open_next.ensures.cores

pub returns-clause-opened : goal.returns-clause-opened
returns-clause-opened g c =
    opened_told g.C.ShardCore.says g.met.C.ShardCore.shard_laws _ _ c.self.view_is c.args.rank c.self.invariant c.requires.there (machine_view c.open_next.new.state) c.open_next.ensures.made

pub returns-clause-calls : goal.returns-clause-calls
returns-clause-calls g c =
    opened_calls_told g.C.ShardCore.says g.met.C.ShardCore.shard_laws _ _ c.self.view_is c.args.rank c.self.invariant c.requires.there (machine_view c.open_next.new.state) c.open_next.ensures.made

pub returns-clause-no_step : goal.returns-clause-no_step
returns-clause-no_step g c =
    opened_steps_told g.C.ShardCore.says g.met.C.ShardCore.shard_laws _ _ c.self.view_is c.args.rank c.self.invariant c.requires.there (machine_view c.open_next.new.state) c.open_next.ensures.made

pub returns-clause-same_step : goal.returns-clause-same_step
returns-clause-same_step g c =
    same_step_told g.C.ShardCore.says g.met.C.ShardCore.shard_laws _ _ c.self.view_is c.args.rank c.self.invariant c.requires.there (machine_view c.open_next.new.state) c.open_next.ensures.made

pub returns-clause-same_answer : goal.returns-clause-same_answer
returns-clause-same_answer g c =
    same_answer_told g.C.ShardCore.says g.met.C.ShardCore.shard_laws _ _ c.self.view_is c.args.rank c.self.invariant c.requires.there (machine_view c.open_next.new.state) c.open_next.ensures.made
