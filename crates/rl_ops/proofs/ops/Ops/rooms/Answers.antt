-- One room more.
use Rattle.std.proofs.Common.{◌+◌, ◌<◌, map, slice_index, ap, ◌∙◌, arith}
use Rattle.std.proofs.lemmas.List.{length_push}
use Rattle.rl_ops.specs.Room.{IsRoom}
use Rattle.rl_ops.proofs.RoomLemmas.{rooms-push}
use Rattle.rl_ops.proofs.ops.Ops.rooms.Goals as goal

pub loop-shard-preserved : goal.loop-shard-preserved
loop-shard-preserved c =
    let shard = c.loop-shard.shard in
    let made = c.in_ok-tallies.ensures in
    let low : shard < 16 = (let test = c.loop-shard-test.true in let most = c.requires.fits.shards in omega arith) in
    let is : IsRoom c.args.geom c.args.self.now.by_rank shard c.in_ok-room.room =
    record {
      calls = c.in_ok-room.ensures.calls ∙ ap (map (λ tally. slice_index tally.calls shard)) c.as_slice.ensures.value ∙ made.calls shard low;
      updates = c.in_ok-room.ensures.updates ∙ ap (map (λ tally. slice_index tally.updates shard)) c.as_slice.ensures.value ∙ made.updates shard low;
    } in
    rw (c.in_ok-push.ensures.items) (record {
      all = length_push c.loop-shard.rooms.items c.in_ok-room.room ∙ ap (λ n. n + 1) c.loop-shard.invariant.all;
      each = rooms-push c.args.geom c.args.self.now.by_rank 0 c.loop-shard.rooms.items c.in_ok-room.room shard c.loop-shard.invariant.each (omega (arith, c.loop-shard.invariant.all)) is;
    })
