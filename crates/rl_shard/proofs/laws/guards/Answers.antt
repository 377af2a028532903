-- What a rank's next atom is guarded by, by the core's laws.
use Rattle.rl_shard.specs.Counting.{whole_of}
use Rattle.rl_shard.specs.laws.CountingLaws.{moment_of, next_there}
use Rattle.rl_shard.specs.laws.Guards.{guarded_names}
use Rattle.rl_shard.specs.Shards.{core_at, view_at, rank_at}
use Rattle.rl_shard.specs.laws.SeatLaws.{seen_moment}
use Rattle.rl_core.specs.laws.TouchLaws.{alone_there}
use Rattle.rl_shard.proofs.laws.guards.Goals as goal

pub returns-clause-ranks : goal.returns-clause-ranks
returns-clause-ranks g c = λ h vs rule r x has at next.
    let core = core_at c.args.shard.now in
    let S = g.C.ShardCore.says core in
    guarded_names _ r at _ _ _ ((g.met.C.ShardCore.shard_laws core).guards (moment_of S h vs rule) r (whole_of x) at (next_there S h vs r x at rule has next))

pub returns-clause-alone : goal.returns-clause-alone
returns-clause-alone g c = λ h vs rule i j x y here there stores comes.
    let core = core_at c.args.shard.now in
    let S = g.C.ShardCore.says core in
    alone_there S (g.met.C.ShardCore.shard_laws core) (moment_of S h vs rule) i j stores.0 stores.1 comes.1 (whole_of x) (whole_of y) comes.0
    (next_there S h vs i x _ rule here stores.2) stores.3 (next_there S h vs j y comes.0 rule there comes.2) comes.3 comes.4

pub returns-clause-seats : goal.returns-clause-seats
returns-clause-seats g c = λ s is at next.
    let shard = c.args.shard.now in
    let q = seen_moment g.C.ShardCore.says g.met.C.ShardCore.shard_laws shard s is in
    guarded_names _ (rank_at s) at _ _ _
    ((g.met.C.ShardCore.shard_laws (core_at shard)).guards q.moment (rank_at s) (view_at s) at (record { seated = q.is_seated; next = next }))
