-- The invariant says it, now and after every run.
use Rattle.rl_machine.specs.Promises.{IsSound}
use Rattle.rl_machine.specs.Changes.{OnlyWritersChange}
use Rattle.rl_machine.specs.laws.SoundLaws.{is_sound, only_writers}
use Rattle.rl_machine.proofs.EveryMoment.{now, ever}
use Rattle.rl_machine.proofs.machine.soundness.Goals as goal

pub returns-clause-sound : goal.returns-clause-sound
returns-clause-sound g c =
    let laws = g.met.C.ShardCore.shard_laws in
    now g.C.ShardCore.says laws _ _ c.machine.view_is c.machine.invariant (λ cores run. IsSound run) (is_sound g.C.ShardCore.says laws)

pub returns-clause-stays : goal.returns-clause-stays
returns-clause-stays g c =
    let laws = g.met.C.ShardCore.shard_laws in
    ever g.C.ShardCore.says laws _ _ c.machine.view_is c.machine.invariant (λ cores run. IsSound run) (is_sound g.C.ShardCore.says laws)

pub returns-clause-changes : goal.returns-clause-changes
returns-clause-changes g c =
    let laws = g.met.C.ShardCore.shard_laws in
    ever g.C.ShardCore.says laws _ _ c.machine.view_is c.machine.invariant (λ cores run. OnlyWritersChange run) (only_writers g.C.ShardCore.says laws)
