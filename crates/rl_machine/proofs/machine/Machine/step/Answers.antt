-- A step keeps all that is true of a machine, and its answer has its cause.
use Rattle.rl_machine.specs.State.{machine_view, running_machine}
use Rattle.rl_machine.specs.laws.StateSteps.{step_keeps, cause_told, tells_told, finished_told, busy_told, held_told, over_told, counted_told, calls_told}
use Rattle.rl_machine.proofs.machine.Machine.step.Goals as goal

pub invariant_of-self-2 : goal.invariant_of-self-2
invariant_of-self-2 g c =
    step_keeps g.C.ShardCore.says g.met.C.ShardCore.shard_laws _ _ c.self.view_is c.self.invariant c.args.rank c.requires.there (machine_view c.step.new.state)
    c.in_ok-made.ensures.made c.in_ok-made.ensures.cores

pub returns-clause-cause : goal.returns-clause-cause
returns-clause-cause g c =
    cause_told g.C.ShardCore.says g.met.C.ShardCore.shard_laws _ _ c.self.view_is c.args.rank c.in_ok-made.made.answer c.self.invariant c.requires.there c.in_ok-made.ensures.answer

pub returns-clause-tells : goal.returns-clause-tells
returns-clause-tells g c =
    tells_told g.C.ShardCore.says g.met.C.ShardCore.shard_laws _ _ c.self.view_is c.args.rank c.in_ok-made.made.answer c.self.invariant c.requires.there c.in_ok-made.ensures.answer

pub returns-clause-finished : goal.returns-clause-finished
returns-clause-finished g c =
    finished_told g.C.ShardCore.says g.met.C.ShardCore.shard_laws _ _ c.self.view_is c.args.rank c.in_ok-made.made.answer c.self.invariant c.requires.there c.in_ok-made.ensures.answer

pub returns-clause-busy : goal.returns-clause-busy
returns-clause-busy g c =
    busy_told g.C.ShardCore.says g.met.C.ShardCore.shard_laws _ _ c.self.view_is c.args.rank c.in_ok-made.made.answer c.self.invariant c.requires.there c.in_ok-made.ensures.answer
    (running_machine g.C.ShardCore.says c.step.new.state) c.in_ok-made.ensures.made

pub returns-clause-held_off : goal.returns-clause-held_off
returns-clause-held_off g c = λ node holder is.
    held_told g.C.ShardCore.says g.met.C.ShardCore.shard_laws _ _ c.self.view_is c.args.rank c.in_ok-made.made.answer c.self.invariant c.requires.there c.in_ok-made.ensures.answer
    (running_machine g.C.ShardCore.says c.step.new.state) c.in_ok-made.ensures.made node holder is

pub returns-clause-over : goal.returns-clause-over
returns-clause-over g c = λ is.
    over_told g.C.ShardCore.says g.met.C.ShardCore.shard_laws _ _ c.self.view_is c.args.rank c.in_ok-made.made.answer c.self.invariant c.requires.there c.in_ok-made.ensures.answer
    (running_machine g.C.ShardCore.says c.step.new.state) c.in_ok-made.ensures.made is

pub returns-clause-counted : goal.returns-clause-counted
returns-clause-counted g c =
    counted_told g.C.ShardCore.says g.met.C.ShardCore.shard_laws _ _ c.self.view_is c.args.rank c.in_ok-made.made.answer c.self.invariant c.requires.there c.in_ok-made.ensures.answer
    (running_machine g.C.ShardCore.says c.step.new.state) c.in_ok-made.ensures.made

pub returns-clause-calls : goal.returns-clause-calls
returns-clause-calls g c =
    calls_told g.C.ShardCore.says g.met.C.ShardCore.shard_laws _ _ c.self.view_is c.args.rank c.in_ok-made.made.answer c.self.invariant c.requires.there c.in_ok-made.ensures.answer
    (running_machine g.C.ShardCore.says c.step.new.state) c.in_ok-made.ensures.made
