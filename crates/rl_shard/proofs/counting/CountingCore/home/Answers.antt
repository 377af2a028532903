-- The homes are the core's, by the shard's table.
use Rattle.std.proofs.Common.{◌<◌, ◌∙◌, ap, sym, subst}
use Rattle.rl_shard.proofs.counting.CountingCore.home.Goals as goal

pub home-requires : goal.home-requires
home-requires g c = subst (λ k. c.args.word < k.size) (g.met.C.ShardCore.same_table c.args.self.now.whole) c.requires

pub returns : goal.returns
returns g c = c.home.ensures ∙ ap (λ k. k.home c.args.word) (sym (g.met.C.ShardCore.same_table c.args.self.now.whole))
