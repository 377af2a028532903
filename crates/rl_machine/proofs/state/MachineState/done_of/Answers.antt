-- One shard more.
use Rattle.std.proofs.Common.{◌≡◌, ◌+◌, ◌≤◌, length, map, take, ap, arith}
use Rattle.rl_core.specs.RankGood.{entries_in}
use Rattle.rl_machine.specs.laws.StateLaws.{IsThere, read_there}
use Rattle.rl_machine.specs.laws.RecordLaws.{kept_in, one_shard_more, on_all_shards}
use Rattle.rl_machine.proofs.state.MachineState.done_of.Goals as goal
use Rattle.rl_machine.proofs.state.MachineState.done_of.Goals.{After-shard-item, In_ok-told}
use Rattle.rl_machine.proofs.state.MachineState.done_of.Given.{Over}

there : (g : Over) (c : After-shard-item g) → IsThere g.C.ShardCore.says c.args.self.now c.requires.good c.loop-shard.shard-index c.shard-item.result
there g c =
    read_there g.C.ShardCore.says c.args.self.now c.requires.good c.deref-shard-items.result.now c.loop-shard.shard-index c.shard-item.result
    c.deref-shard-items.ensures.value c.loop-shard-test.true c.shard-item.is

pub transcript_of-requires-clause-good : goal.transcript_of-requires-clause-good
transcript_of-requires-clause-good g c = (there g (goal.at.transcript_of-requires-clause-good g c).After-shard-item).is_good

pub transcript_of-requires-clause-there : goal.transcript_of-requires-clause-there
transcript_of-requires-clause-there g c = let all = (there g (goal.at.transcript_of-requires-clause-there g c).After-shard-item).ranks in let low = c.requires.there in omega arith

-- the count with this shard's entries
next : (g : Over) (c : In_ok-told g) →
    (c.loop-shard.done + length c.in_ok-told.told.items ≡ entries_in
    (map (kept_in g.C.ShardCore.says c.args.rank) (take (c.loop-shard.shard-index + 1) c.args.self.now.shards.items))) × (c.loop-shard.done + length c.in_ok-told.told.items ≤ 20000)
next g c =
    one_shard_more g.C.ShardCore.says g.met.C.ShardCore.shard_laws c.args.self.now c.requires.good c.args.rank c.requires.there
    c.loop-shard.shard-index c.shard-item.result c.loop-shard.done (length c.in_ok-told.told.items)
    (there g (goal.at.In_ok-told g c).After-shard-item).listed c.loop-shard.invariant (ap length c.in_ok-told.ensures)

pub overflow_cast-done : goal.overflow_cast-done
overflow_cast-done g c = let few = (next g (goal.at.overflow_cast-done g c).In_ok-told).1 in omega arith

pub overflow_add-done : goal.overflow_add-done
overflow_add-done g c = let few = (next g (goal.at.overflow_add-done g c).In_ok-told).1 in omega arith

pub loop-shard-preserved : goal.loop-shard-preserved
loop-shard-preserved g c = let more = (next g (goal.at.loop-shard-preserved g c).In_ok-told).0 in let long = c.len.ensures in omega arith

pub returns : goal.returns
returns g c =
    let all : c.loop-shard.shard-index ≡ length c.args.self.now.shards.items = (let e = ap length c.deref-shard-items.ensures.value in omega arith) in
    on_all_shards g.C.ShardCore.says c.args.self.now c.args.rank c.loop-shard.shard-index c.loop-shard.done all c.loop-shard.invariant
