-- There are few ranks.
use Rattle.std.proofs.Common.{length, ap, List, Vec, Global, arith}
use Rattle.std.proofs.lemmas.List.{length-map}
use Rattle.rl_model.specs.declared.call.Call.{Call}
use Rattle.rl_machine.proofs.machine.Machine.transcripts.Goals as goal

pub overflow_cast-ranks : goal.overflow_cast-ranks
overflow_cast-ranks g c =
    let items : Vec Call Global → List Call = λ list. list.items in
    let long = length-map c.as_slice.result.now items in
    let same = ap length c.as_slice.ensures in
    let few = c.shard-kept.ensures.few in
    let ranks = c.shard-kept.ensures.ranks in
    omega arith
