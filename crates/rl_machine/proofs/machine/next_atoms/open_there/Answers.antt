-- The rank's next block is opened on its shard.
use Rattle.std.proofs.Common.{arith}
use Rattle.rl_machine.specs.laws.StateLaws.{core_set}
use Rattle.rl_machine.specs.laws.OpenSteps.{IsBlockThere, block_there, CanOpenAt, CanOpen}
use Rattle.rl_machine.proofs.machine.next_atoms.open_there.Goals as goal
use Rattle.rl_machine.proofs.machine.next_atoms.open_there.Goals.{After-index-first, After-block_shard-place, After-index_mut-shard}
use Rattle.rl_machine.proofs.machine.next_atoms.open_there.Given.{Over}

block : (g : Over) (c : After-index-first g) → IsBlockThere g.C.ShardCore.says c.args.state.now c.args.rank c.index-first.result.now
block g c =
    block_there g.C.ShardCore.says g.met.C.ShardCore.shard_laws c.args.state.now c.requires.good c.args.rank c.requires.there c.requires.opens c.index-first.result.now c.index-first.ensures

pub next_block-block-requires : goal.next_block-block-requires
next_block-block-requires g c =
    let b = block g (goal.at.next_block-block-requires g c).After-index-first in
    record { there = c.requires.there; sized = b.sized; begins = b.begins; within = b.within }

-- its shard, as the code has both
place : (g : Over) (c : After-block_shard-place g) → CanOpenAt g.C.ShardCore.says c.args.state.now c.args.rank c.index-first.result.now c.block_shard-place.result c.next_block-block.result.now
place g c = (block g (goal.at.After-block_shard-place g c).After-index-first).goes c.block_shard-place.result c.next_block-block.result.now c.next_block-block.ensures c.block_shard-place.ensures

pub index_mut-shard-requires : goal.index_mut-shard-requires
index_mut-shard-requires g c =
    let low = (place g (goal.at.index_mut-shard-requires g c).After-block_shard-place).there in
    let all = c.args.state.now.shards.ok.0 in
    omega arith

can : (g : Over) (c : After-index_mut-shard g) →
    CanOpen g.C.ShardCore.says c.args.state.now c.args.rank c.index-first.result.now c.block_shard-place.result c.next_block-block.result.now c.index_mut-shard.result.now
can g c = (place g (goal.at.After-index_mut-shard g c).After-block_shard-place).on c.index_mut-shard.result.now c.index_mut-shard.ensures.value

pub open_on-requires : goal.open_on-requires
open_on-requires g c =
    let q = can g (goal.at.open_on-requires g c).After-index_mut-shard in
    record { there = q.ranks; good = q.is_good; few = q.few; closed = q.closed; fits = q.fits }

pub returns-clause-made : goal.returns-clause-made
returns-clause-made g c = (can g (goal.at.returns-clause-made g c).After-index_mut-shard).opened c.open_on.new.shard c.open_on.ensures.opened

pub returns-clause-cores : goal.returns-clause-cores
returns-clause-cores g c =
    let q = can g (goal.at.returns-clause-cores g c).After-index_mut-shard in
    core_set c.args.state.now.shards.items c.block_shard-place.result c.index_mut-shard.result.now c.open_on.new.shard q.has c.open_on.ensures.core
