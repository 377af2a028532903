-- The rank's next block is opened on its shard, and one atom made there.
use Rattle.std.proofs.Common.{sym, arith}
use Rattle.std.proofs.lemmas.Result.{err_from_is_err_and}
use Rattle.rl_machine.specs.laws.StateLaws.{kept_set, core_set}
use Rattle.rl_machine.specs.laws.OpenSteps.{IsBlockThere, block_there, CanOpenAt, CanOpen}
use Rattle.rl_machine.proofs.state.step_block.Goals as goal
use Rattle.rl_machine.proofs.state.step_block.Goals.{After-index-first, After-block_shard-place, After-index_mut-shard}
use Rattle.rl_machine.proofs.state.step_block.Given.{Over}

block : (g : Over) (c : After-index-first g) → IsBlockThere g.C.ShardCore.says c.args.state.now c.args.rank c.index-first.result.now
block g c =
    block_there g.C.ShardCore.says g.met.C.ShardCore.shard_laws c.args.state.now c.requires.good c.args.rank c.requires.there c.requires.opens c.index-first.result.now c.index-first.ensures

pub next_block-block-requires : goal.next_block-block-requires
next_block-block-requires g c =
    let b = block g (goal.at.next_block-block-requires g c).After-index-first in
    record { there = c.requires.there; sized = b.sized; begins = b.begins; within = b.within }

-- its shard, as the code has both
place : (g : Over) (c : After-block_shard-place g) → CanOpenAt g.C.ShardCore.says c.args.state.now c.args.rank c.index-first.result.now c.block_shard-place.result c.next_block-block.result.now
place g c = (block g (goal.at.After-block_shard-place g c).After-index-first).goes c.block_shard-place.result c.next_block-block.result.now c.next_block-block.ensures c.block_shard-place.ensures

pub index_mut-shard-requires : goal.index_mut-shard-requires
index_mut-shard-requires g c =
    let low = (place g (goal.at.index_mut-shard-requires g c).After-block_shard-place).there in
    let all = c.args.state.now.shards.ok.0 in
    omega arith

can : (g : Over) (c : After-index_mut-shard g) →
    CanOpen g.C.ShardCore.says c.args.state.now c.args.rank c.index-first.result.now c.block_shard-place.result c.next_block-block.result.now c.index_mut-shard.result.now
can g c = (place g (goal.at.After-index_mut-shard g c).After-block_shard-place).on c.index_mut-shard.result.now c.index_mut-shard.ensures.value

pub block_at-requires : goal.block_at-requires
block_at-requires g c =
    let q = can g (goal.at.block_at-requires g c).After-index_mut-shard in
    record { there = q.ranks; good = q.is_good; few = q.few; closed = q.closed; fits = q.fits }

pub returns-in_err-answer-clause-cores : goal.returns-in_err-answer-clause-cores
returns-in_err-answer-clause-cores g c =
    let q = can g (goal.at.returns-in_err-answer-clause-cores g c).After-index_mut-shard in
    core_set c.args.state.now.shards.items c.block_shard-place.result c.index_mut-shard.result.now c.block_at.new.shard q.has c.block_at.ensures.core

pub returns-in_err-answer-clause-kept : goal.returns-in_err-answer-clause-kept
returns-in_err-answer-clause-kept g c =
    let q = can g (goal.at.returns-in_err-answer-clause-kept g c).After-index_mut-shard in
    let p = err_from_is_err_and c.from_residual.result c.from_residual.ensures.1 in
    rw p.1 (kept_set c.args.state.now c.block_shard-place.result c.index_mut-shard.result.now c.block_at.new.shard q.has c.in_err-answer.ensures.kept)

pub returns-clause-made : goal.returns-clause-made
returns-clause-made g c =
    let q = can g (goal.at.returns-clause-made g c).After-index_mut-shard in
    let done = c.in_ok-answer.ensures in
    q.made c.block_at.new.shard c.steps_made-step.result c.in_ok-answer.answer c.count.new.self c.steps_made-step.ensures done.made done.answer c.count.ensures

pub returns-clause-answer : goal.returns-clause-answer
returns-clause-answer g c = (can g (goal.at.returns-clause-answer g c).After-index_mut-shard).told c.in_ok-answer.answer c.in_ok-answer.ensures.answer

pub returns-clause-cores : goal.returns-clause-cores
returns-clause-cores g c =
    let q = can g (goal.at.returns-clause-cores g c).After-index_mut-shard in
    core_set c.args.state.now.shards.items c.block_shard-place.result c.index_mut-shard.result.now c.block_at.new.shard q.has c.block_at.ensures.core

pub returns-clause-place : goal.returns-clause-place
returns-clause-place g c = sym (can g (goal.at.returns-clause-place g c).After-index_mut-shard).stands
