-- Its ranks may make no local act.
use Rattle.std.proofs.Common.{subst}
use Rattle.rl_core.specs.Domains.{UsesLocals}
use Rattle.rl_core.specs.ShardTables.{ShardTable}
use Rattle.rl_locks.proofs.SwapLaws.{uses_none}
use Rattle.rl_locks.proofs.machine_domains.spin_domains_of_machine.Goals as goal

pub returns : goal.returns
returns g c = λ ks there s S has r x at get next local.
    let q = (c.rules.ensures.stays ks there).shards s S has in
    let sound = (c.soundness.ensures.stays ks there).shards s S has in
    uses_none r (subst (λ (T : ShardTable _). UsesLocals T.may_make r) q.is.table_is (sound.domains.locals r x at get next local))
