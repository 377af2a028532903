-- There are few ranks.
use Rattle.std.proofs.Common.{length, ap, List, Vec, Global, arith}
use Rattle.std.proofs.lemmas.List.{length-map}
use Rattle.rl_model.specs.declared.call.Call.{Call}
use Rattle.rl_machine.specs.laws.WhoGoes.{ranks_fit}
use Rattle.rl_machine.proofs.state.MachineState.ranks.Goals as goal

pub overflow_cast-result : goal.overflow_cast-result
overflow_cast-result g c =
    let items : Vec Call Global → List Call = λ list. list.items in
    let few = ranks_fit g.C.ShardCore.says g.met.C.ShardCore.shard_laws c.args.self.now c.requires.good in
    let long = length-map c.as_slice.result.now items in
    let same = ap length c.as_slice.ensures in
    omega arith
