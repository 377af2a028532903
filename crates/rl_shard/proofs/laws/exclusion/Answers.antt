-- Who stands as a holder is alone, by the core's laws.
use Rattle.std.proofs.Common.{◌≡◌, ◌+◌, List, [], ◌∷◌, map, Some, ap, refl, sym, ◌∙◌, subst}
use Rattle.rl_core.specs.ShardTables.{ShardTable}
use Rattle.rl_word.specs.laws.Places.{get_map}
use Rattle.rl_core.specs.Standings.{AloneIn}
use Rattle.rl_core.specs.laws.TouchLaws.{beside}
use Rattle.rl_window.specs.declared.knows.Knows.TheVariants.{Rank}
use Rattle.rl_shard.specs.declared.counting.CountedView.{CountedView}
use Rattle.rl_shard.specs.Counting.{whole_of, standing_of, counting_rule}
use Rattle.rl_shard.specs.laws.CountingLaws.{moment_of}
use Rattle.rl_shard.specs.Shards.{core_at}
use Rattle.rl_shard.proofs.laws.exclusion.Goals as goal

all_stand : {V : Type 0} (T : ShardTable V) (vs : List (CountedView V)) → map T.standing (map whole_of vs) ≡ map (standing_of T) vs
all_stand T [] = refl
all_stand T (x ∷ vs) = ap (λ z. standing_of T x ∷ z) (all_stand T vs)

pub returns-clause-states : goal.returns-clause-states
returns-clause-states g c = λ h vs rule.
    let core = core_at c.args.shard.now in
    subst AloneIn (all_stand (g.C.ShardCore.says core).table vs) ((g.met.C.ShardCore.shard_laws core).alone_in (moment_of (g.C.ShardCore.says core) h vs rule) rule.is_good)

pub returns-clause-live : goal.returns-clause-live
returns-clause-live g c = λ key s ruled same i j r q first second writer holder.
    let shard = c.args.shard.now in
    let core = core_at shard in
    let T = (g.C.ShardCore.says core).table in
    let rule = subst (λ k. counting_rule g.C.ShardCore.says k ruled.held ruled.views) same ruled.kept.0 in
    let alone = subst AloneIn (all_stand T ruled.views) ((g.met.C.ShardCore.shard_laws core).alone_in (moment_of (g.C.ShardCore.says core) ruled.held ruled.views rule) rule.is_good) in
    let here = ruled.each i (Rank r) first in
    let there = ruled.each j (Rank q) second in
    let ranks : r.rank ≡ q.rank = beside (map (standing_of T) ruled.views) r.rank q.rank (standing_of T q.view) alone
    (get_map (standing_of T) ruled.views r.rank r.view here.6 ∙ ap (λ z. Some z) writer) (get_map (standing_of T) ruled.views q.rank q.view there.6) holder in
    here.0 ∙ ap (λ n. n + 1) ranks ∙ sym there.0
