-- A seat's view is one that a good moment has.
use Rattle.rl_shard.specs.Shards.{core_at, view_at, rank_at}
use Rattle.rl_shard.specs.laws.SeatLaws.{seen_moment}
use Rattle.rl_shard.proofs.laws.domains.Goals as goal

pub returns-clause-cards : goal.returns-clause-cards
returns-clause-cards g c = λ s at is next card.
    let shard = c.args.shard.now in
    let q = seen_moment g.C.ShardCore.says g.met.C.ShardCore.shard_laws shard s is in
    (g.met.C.ShardCore.shard_laws (core_at shard)).cards q.moment (rank_at s) (view_at s) at (record { seated = q.is_seated; next = next }) card

pub returns-clause-locals : goal.returns-clause-locals
returns-clause-locals g c = λ s at is next local.
    let shard = c.args.shard.now in
    let q = seen_moment g.C.ShardCore.says g.met.C.ShardCore.shard_laws shard s is in
    (g.met.C.ShardCore.shard_laws (core_at shard)).locals q.moment (rank_at s) (view_at s) at (record { seated = q.is_seated; next = next }) local
