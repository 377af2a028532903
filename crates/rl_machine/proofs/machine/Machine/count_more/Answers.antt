-- What is true of a machine stays so with more steps counted.
use Rattle.std.proofs.Common.{◌≤◌, ap, ◌∙◌, arith}
use Rattle.rl_step.specs.Answers.{steps_made}
use Rattle.rl_machine.specs.laws.RestLaws.{machine_with_steps, counts_more}
use Rattle.rl_machine.specs.State.{machine_view}
use Rattle.rl_machine.proofs.machine.Machine.count_more.Goals as goal

pub invariant_of-self : goal.invariant_of-self
invariant_of-self g c =
    let more = ap steps_made c.count_more.ensures ∙ counts_more c.args.answer c.args.count c.self.inside.state.steps in
    let later : steps_made c.self.inside.state.steps ≤ steps_made c.count_more.new.steps = omega arith in
    machine_with_steps g.C.ShardCore.says (machine_view c.self.inside.state) c.count_more.new.steps later c.self.invariant
