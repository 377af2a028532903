use Rattle.std.proofs.Common.{[], ◌∷◌, ◌++◌, map, take, ap, sym, ◌∙◌}
use Rattle.std.proofs.lemmas.List.{take_more}
use Rattle.std.proofs.lemmas.Option.{slice_get_within, get_or_from_slice_get}
use Rattle.rl_machine.specs.Running.{running}
use Rattle.rl_making.specs.Counting.{counts_on}
use Rattle.rl_making.proofs.counts.all_shards.Goals as goal

pub loop-shard-preserved : goal.loop-shard-preserved
loop-shard-preserved g c =
    let all = map counts_on (running g.C.ShardCore.says c.args.machine.now).shards in
    let i = c.loop-shard.shard in
    let one = c.shard_counts.result in
    c.in_ok-push.ensures.items ∙ ap (λ l. l ++ one ∷ []) c.loop-shard.invariant
    ∙ ap (λ x. take i all ++ x ∷ []) (sym (get_or_from_slice_get all i one one c.shard_counts.ensures))
    ∙ sym (take_more all i one (slice_get_within all i one c.shard_counts.ensures))
