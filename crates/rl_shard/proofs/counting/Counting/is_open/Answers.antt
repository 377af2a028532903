-- The rule says of the view what the core's own rule says of the core's.
use Rattle.rl_shard.specs.laws.CountingLaws.{whole_may_be}
use Rattle.rl_shard.proofs.counting.Counting.is_open.Goals as goal

pub is_open-requires : goal.is_open-requires
is_open-requires g c = whole_may_be g.C.ShardCore.says g.met.C.ShardCore.shard_laws g.C.Core.rule g.met.C.ShardCore.ruled c.args.self.now c.args.view.now c.requires
