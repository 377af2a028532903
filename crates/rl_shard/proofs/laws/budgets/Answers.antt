-- The budgets in all, which the core's laws promise of what has happened, hold of what was counted of it.
use Rattle.std.proofs.Common.{◌≤◌, ◌*◌, inl, inr, ⊎_elim, sum_by, subst, sym}
use Rattle.std.proofs.lemmas.Option.{slice_get_within}
use Rattle.rl_step.specs.Queues.{passed}
use Rattle.rl_shard.specs.Counting.{settled_by}
use Rattle.rl_shard.specs.laws.CountingLaws.{moment_of}
use Rattle.rl_shard.specs.Shards.{core_at}
use Rattle.rl_shard.proofs.laws.budgets.Goals as goal

pub returns : goal.returns
returns g c = λ h vs rule q budget queue has is.
    let core = core_at c.args.shard.now in
    let promised = (g.met.C.ShardCore.shard_laws core).queues (moment_of (g.C.ShardCore.says core) h vs rule) rule.is_good in
    let low = slice_get_within (g.C.ShardCore.says core).table.queues q queue has in
    ⊎_elim
    (λ full. inl (inl full))
    (λ settles. ⊎_elim
    (λ full. inl (inr full))
    (λ passes. inr
    (subst (λ n. n ≤ budget * sum_by (settled_by q) vs) (sym passes)
    (subst (λ n. passed q rule.trace ≤ budget * n) (sym settles) (promised.totals q budget queue has is))))
    (rule.passed_are q low))
    (rule.settled_are q low)
