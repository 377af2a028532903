-- Each shard of the machine meets the rule of its core.
use Rattle.std.proofs.Common.{sym, subst}
use Rattle.rl_machine.specs.Running.{moment_of}
use Rattle.rl_locks.proofs.ways.ways_of_machine.Goals as goal

pub returns-clause-now : goal.returns-clause-now
returns-clause-now g c = λ s S has.
    let q = c.rules.ensures.now.shards s S has in
    subst (λ z. g.C.Promising.ways z S.held S.views) (sym q.is.table_is) (c.way_laws.ensures q.core (moment_of S q.acts) q.is.is_good)

pub returns-clause-stays : goal.returns-clause-stays
returns-clause-stays g c = λ ks there s S has.
    let q = (c.rules.ensures.stays ks there).shards s S has in
    subst (λ z. g.C.Promising.ways z S.held S.views) (sym q.is.table_is) (c.way_laws.ensures q.core (moment_of S q.acts) q.is.is_good)
