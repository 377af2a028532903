-- The core that was just made may begin, with a tally for each of its lock's queues.
use Rattle.std.proofs.Common.{◌≡◌, ◌∙◌, length, map, sym, ap, subst, rules}
use Rattle.std.specs.Prelude.{IfOk}
use Rattle.rl_step.specs.LockQueues.{queues_of}
use Rattle.rl_core.specs.ShardTables.{site_with}
use Rattle.rl_shard.specs.Counting.{first_counted}
use Rattle.rl_shard.specs.Shards.{IsShardOf, table_at, counted_at}
use Rattle.rl_shard.specs.Starts.{IsStart}
use Rattle.rl_shard.proofs.OpeningLaws.{is_placed}
use Rattle.rl_shard.proofs.shard.Shard.new.Goals as goal

pub start-requires : goal.start-requires
start-requires g c =
    let updates : length c.args.room.updates.items ≡ length c.args.shape.now.node_of = search rules in
    let calls : length c.args.room.calls.items ≡ length c.args.shape.now.node_of = search rules in
    let shape = c.args.shape.now in
    let site = site_with c.args.geom c.args.shard c.args.room.updates.items in
    let core = c.in_ok-core.core in
    let nodes : c.shape.inside.nodes ≡ shape.nodes = search rules in
    let queues = c.queue_count-queues.result in
    let many : queues ≡ length (queues_of g.C.ShardCore.name shape c.args.home c.args.knobs) =
    c.queue_count-queues.ensures c.args.home c.args.knobs ∙ ap (λ n. length (queues_of n shape c.args.home c.args.knobs)) c.lock_name.ensures in
    let start =
    is_placed g.C.ShardCore.says g.met.C.ShardCore.shard_laws core g.C.ShardCore.name (g.C.ShardCore.defined shape c.args.home c.args.knobs site) shape c.args.home c.args.knobs c.args.geom c.args.shard
    c.args.room.updates.items c.args.room.calls.items queues (g.met.C.ShardCore.has_queues shape c.args.home c.args.knobs site) c.in_ok-core.ensures.defined (g.met.C.ShardCore.laid shape c.args.home c.args.knobs site) c.in_ok-core.ensures.layout
    c.requires.fits c.requires.updates.1 updates calls c.requires.proper.some c.requires.proper.few many in
    record {
      start = subst (λ n. IsStart g.C.ShardCore.says core n queues c.as_slice.result.now) (sym nodes)
          (subst (IsStart g.C.ShardCore.says core shape.nodes queues) (sym c.as_slice.ensures.value) start);
    }

pub returns-clause-shard : goal.returns-clause-shard
returns-clause-shard g c =
    let calls : length c.args.room.calls.items ≡ length c.args.shape.now.node_of = search rules in
    subst (λ n. IfOk c.start.result (λ p. IsShardOf g.C.ShardCore.says n p.0)) (ap length c.as_slice.ensures.value ∙ calls) c.start.ensures.shard

pub returns-clause-views : goal.returns-clause-views
returns-clause-views g c =
    let shape = c.args.shape.now in
    let many : c.queue_count-queues.result ≡ length (queues_of g.C.ShardCore.name shape c.args.home c.args.knobs) =
    c.queue_count-queues.ensures c.args.home c.args.knobs ∙ ap (λ n. length (queues_of n shape c.args.home c.args.knobs)) c.lock_name.ensures in
    subst (λ q. IfOk c.start.result (λ p. map counted_at p.1.items ≡ first_counted (table_at g.C.ShardCore.says p.0) q c.args.room.calls.items)) many
    (subst (λ l. IfOk c.start.result (λ p. map counted_at p.1.items ≡ first_counted (table_at g.C.ShardCore.says p.0) c.queue_count-queues.result l)) c.as_slice.ensures.value c.start.ensures.views)
