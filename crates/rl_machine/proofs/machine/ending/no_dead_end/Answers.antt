-- The invariant says it, now and after every run.
use Rattle.rl_machine.specs.MachineEnding.{CanFinish, CanFinishSoon}
use Rattle.rl_machine.specs.laws.NoDeadEnd.{can_finish, can_finish_in}
use Rattle.rl_machine.proofs.EveryMoment.{now, ever}
use Rattle.rl_machine.proofs.machine.ending.no_dead_end.Goals as goal

pub returns-clause-now : goal.returns-clause-now
returns-clause-now g c =
    let laws = g.met.C.ShardCore.shard_laws in
    now g.C.ShardCore.says laws _ _ c.machine.view_is c.machine.invariant (λ cores run. CanFinish run)
    (can_finish g.C.ShardCore.says laws g.C.ShardEnding.left g.C.ShardEnding.most g.met.C.ShardEnding.ends)

pub returns-clause-later : goal.returns-clause-later
returns-clause-later g c =
    let laws = g.met.C.ShardCore.shard_laws in
    ever g.C.ShardCore.says laws _ _ c.machine.view_is c.machine.invariant (λ cores run. CanFinish run)
    (can_finish g.C.ShardCore.says laws g.C.ShardEnding.left g.C.ShardEnding.most g.met.C.ShardEnding.ends)

pub returns-clause-soon : goal.returns-clause-soon
returns-clause-soon g c =
    let laws = g.met.C.ShardCore.shard_laws in
    now g.C.ShardCore.says laws _ _ c.machine.view_is c.machine.invariant (CanFinishSoon g.C.ShardEnding.left g.C.ShardEnding.most)
    (can_finish_in g.C.ShardCore.says laws g.C.ShardEnding.left g.C.ShardEnding.most g.met.C.ShardEnding.ends)
