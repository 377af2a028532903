-- The invariant says it, now and after every run.
use Rattle.rl_machine.specs.Ruled.{AreRuled}
use Rattle.rl_machine.specs.laws.RuledLaws.{are_ruled}
use Rattle.rl_machine.proofs.EveryMoment.{now, ever}
use Rattle.rl_machine.proofs.machine.ruled.rules.Goals as goal

pub returns-clause-now : goal.returns-clause-now
returns-clause-now g c =
    let laws = g.met.C.ShardCore.shard_laws in
    now g.C.ShardCore.says laws _ _ c.machine.view_is c.machine.invariant (AreRuled g.C.ShardCore.says) (are_ruled g.C.ShardCore.says laws)

pub returns-clause-stays : goal.returns-clause-stays
returns-clause-stays g c =
    let laws = g.met.C.ShardCore.shard_laws in
    ever g.C.ShardCore.says laws _ _ c.machine.view_is c.machine.invariant (AreRuled g.C.ShardCore.says) (are_ruled g.C.ShardCore.says laws)
