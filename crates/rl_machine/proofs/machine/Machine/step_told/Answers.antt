-- A step keeps all that is true of a machine, and what its end tells is true.
use Rattle.std.proofs.Common.{◌<◌, length, sym, subst}
use Rattle.rl_machine.specs.Rested.{Tells}
use Rattle.rl_machine.specs.State.{machine_view, running_machine}
use Rattle.rl_machine.specs.laws.StateSteps.{step_keeps}
use Rattle.rl_machine.specs.laws.StepEnds.{end_tells}
use Rattle.rl_machine.proofs.machine.Machine.step_told.Goals as goal

pub invariant_of-self-2 : goal.invariant_of-self-2
invariant_of-self-2 g c =
    step_keeps g.C.ShardCore.says g.met.C.ShardCore.shard_laws _ _ c.self.view_is c.self.invariant c.args.rank c.requires.there (machine_view c.step.new.state)
    c.in_ok-made.ensures.made c.in_ok-made.ensures.cores

pub returns-clause-told : goal.returns-clause-told
returns-clause-told g c =
    let low = subst (λ m. c.args.rank < length m.calls) (sym c.self.view_is) c.requires.there in
    let now = running_machine g.C.ShardCore.says c.step.new.state in
    let made = c.in_ok-made.made in
    subst (Tells now c.args.rank made.place) (sym c.what_is_told.ensures)
    (end_tells g.C.ShardCore.says g.met.C.ShardCore.shard_laws
    (machine_view c.self.inside.state) c.args.rank c.self.invariant low made.answer now made.place c.in_ok-made.ensures.answer c.in_ok-made.ensures.made c.in_ok-made.ensures.place)
