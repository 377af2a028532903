-- The core's next atom, by the shard's table.
use Rattle.std.proofs.Common.{◌∙◌, ap, sym}
use Rattle.rl_shard.specs.laws.CountingLaws.{whole_may_be}
use Rattle.rl_shard.proofs.counting.CountingCore.next.Goals as goal

pub next-requires : goal.next-requires
next-requires g c = whole_may_be g.C.ShardCore.says g.met.C.ShardCore.shard_laws g.C.Core.rule g.met.C.ShardCore.ruled c.args.self.now c.args.view.now c.requires

pub returns-clause-atom : goal.returns-clause-atom
returns-clause-atom g c = c.next.ensures.atom ∙ ap (λ k. k.next c.args.view.now.whole) (sym (g.met.C.ShardCore.same_table c.args.self.now.whole))
