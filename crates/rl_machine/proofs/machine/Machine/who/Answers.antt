-- The invariant says it of the machine's state.
use Rattle.std.proofs.Common.{◌<◌, length, IfSome, sym, subst}
use Rattle.std.proofs.lemmas.Option.{IfSome_then}
use Rattle.rl_machine.specs.MachineEnding.{AllDone, machine_left}
use Rattle.rl_machine.specs.Run.{stepped}
use Rattle.rl_machine.specs.Running.{running, cores_of}
use Rattle.rl_machine.specs.State.{machine_view, running_machine}
use Rattle.rl_machine.specs.laws.WhoGoes.{Leading, leads, is_over}
use Rattle.rl_machine.proofs.machine.Machine.who.Goals as goal
use Rattle.rl_machine.proofs.machine.Machine.who.Goals.{After-who}
use Rattle.rl_machine.proofs.machine.Machine.who.Given.{Over}

by_state : (g : Over) (c : After-who g) → IfSome c.who.result (Leading g.C.ShardCore.says g.met.C.ShardCore.shard_laws
    g.C.ShardEnding.left g.C.ShardEnding.most g.met.C.ShardEnding.ends g.C.ShardGuiding.urgent g.met.C.ShardGuiding.guides
    (cores_of (machine_view c.self.inside.state)) c.self.invariant.acts (running_machine g.C.ShardCore.says c.self.inside.state) c.self.invariant.is_good)
by_state g c =
    let m = machine_view c.self.inside.state in
    let is = c.self.invariant in
    IfSome_then c.who.result c.who.ensures.next
    (leads g.C.ShardCore.says g.met.C.ShardCore.shard_laws
    g.C.ShardEnding.left g.C.ShardEnding.most g.met.C.ShardEnding.ends g.C.ShardGuiding.urgent g.met.C.ShardGuiding.guides (cores_of m) is.acts (running g.C.ShardCore.says m) is.is_good)

pub returns-clause-there : goal.returns-clause-there
returns-clause-there g c =
    let at = goal.at.returns-clause-there g c in
    subst (λ m. IfSome c.who.result (λ rank. rank < length m.calls)) c.self.view_is (IfSome_then c.who.result (by_state g at.After-who) (λ r l. l.there))

pub returns-clause-less : goal.returns-clause-less
returns-clause-less g c =
    let at = goal.at.returns-clause-less g c in
    let left = machine_left g.C.ShardEnding.left g.C.ShardEnding.most in
    let says = g.C.ShardCore.says in
    subst (λ m. IfSome c.who.result (λ rank. left (cores_of m) (stepped (running says m) rank) < left (cores_of m) (running says m))) c.self.view_is
    (IfSome_then c.who.result (by_state g at.After-who) (λ r l. l.less))

pub returns-clause-over : goal.returns-clause-over
returns-clause-over g c =
    let m = machine_view c.self.inside.state in
    let says = g.C.ShardCore.says in (
      λ e. subst (λ z. AllDone (running says z)) c.self.view_is (c.who.ensures.over e),
      λ done. is_over g.C.ShardGuiding.urgent (cores_of m) (running says m) c.who.result c.who.ensures.next (subst (λ z. AllDone (running says z)) (sym c.self.view_is) done),
    )
