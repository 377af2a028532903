-- One shard more.
use Rattle.std.proofs.Common.{◌≡◌, ◌+◌, ◌≤◌, length, map, take, ap, sym, ◌∙◌, arith}
use Rattle.rl_machine.specs.ShardSteps.{desk_at}
use Rattle.rl_core.specs.Desks.{desk_entries}
use Rattle.rl_core.specs.RankGood.{entries_in}
use Rattle.rl_machine.specs.laws.StateLaws.{IsThere, read_there}
use Rattle.rl_machine.specs.laws.RecordLaws.{kept_in, one_shard_more, on_all_shards}
use Rattle.rl_machine.proofs.state.MachineState.done.Goals as goal
use Rattle.rl_machine.proofs.state.MachineState.done.Goals.{After-shard-item, After-entries}
use Rattle.rl_machine.proofs.state.MachineState.done.Given.{Over}

there : (g : Over) (c : After-shard-item g) → IsThere g.C.ShardCore.says c.args.self.now c.requires.good c.loop-shard.shard-index c.shard-item.result
there g c =
    read_there g.C.ShardCore.says c.args.self.now c.requires.good c.deref-shard-items.result.now c.loop-shard.shard-index c.shard-item.result
    c.deref-shard-items.ensures.value c.loop-shard-test.true c.shard-item.is

pub view-requires : goal.view-requires
view-requires g c = let all = (there g (goal.at.view-requires g c).After-shard-item).ranks in let low = c.requires.there in omega arith

-- the count with this shard's entries
next : (g : Over) (c : After-entries g) →
    (c.loop-shard.done + length c.entries.result.now ≡ entries_in
    (map (kept_in g.C.ShardCore.says c.args.rank) (take (c.loop-shard.shard-index + 1) c.args.self.now.shards.items))) × (c.loop-shard.done + length c.entries.result.now ≤ 20000)
next g c =
    let item = c.shard-item.result in
    let same : c.entries.result.now ≡ kept_in g.C.ShardCore.says c.args.rank item = c.entries.ensures
    ∙ ap desk_entries (sym (g.met.C.TellsAll.tells_all item.core item.flat.words.words c.args.rank c.view.result.now))
    ∙ sym (ap (λ o. desk_entries (desk_at (g.C.ShardCore.says item.core).table item.flat.words.words c.args.rank o)) c.view.ensures) in
    one_shard_more g.C.ShardCore.says g.met.C.ShardCore.shard_laws c.args.self.now c.requires.good c.args.rank c.requires.there
    c.loop-shard.shard-index item c.loop-shard.done (length c.entries.result.now) (there g (goal.at.After-entries g c).After-shard-item).listed c.loop-shard.invariant (ap length same)

pub overflow_cast-done : goal.overflow_cast-done
overflow_cast-done g c = let few = (next g (goal.at.overflow_cast-done g c).After-entries).1 in omega arith

pub overflow_add-done : goal.overflow_add-done
overflow_add-done g c = let few = (next g (goal.at.overflow_add-done g c).After-entries).1 in omega arith

pub loop-shard-preserved : goal.loop-shard-preserved
loop-shard-preserved g c = (next g (goal.at.loop-shard-preserved g c).After-entries).0

pub returns : goal.returns
returns g c =
    let all : c.loop-shard.shard-index ≡ length c.args.self.now.shards.items = (let e = ap length c.deref-shard-items.ensures.value in omega arith) in
    on_all_shards g.C.ShardCore.says c.args.self.now c.args.rank c.loop-shard.shard-index c.loop-shard.done all c.loop-shard.invariant
