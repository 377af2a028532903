-- The seat's view is one that the rule allows, and the opened block keeps it so.
use Rattle.std.proofs.Common.{rules}
use Rattle.rl_window.specs.Seats.{with_view}
use Rattle.rl_window.specs.laws.SeatLemmas.{port_known, reviewed}
use Rattle.rl_shard.specs.Counting.{counting_rule}
use Rattle.rl_shard.specs.laws.SeatLaws.{begun, seat_opens}
use Rattle.rl_shard.proofs.seat.Seat.begin_batch.Goals as goal

pub open_block-requires-clause-possible : goal.open_block-requires-clause-possible
open_block-requires-clause-possible g c =
    port_known (counting_rule g.C.ShardCore.says) c.args.shard.now.window c.args.self.now.seat c.core.result.now c.view_mut.result.now
    (record { core_is = c.core.ensures; seat = c.requires.seat.seat; kept = c.requires.seat.kept }) c.view_mut.ensures.value

pub returns-clause-seat : goal.returns-clause-seat
returns-clause-seat g c = record {
  seat = (reviewed (counting_rule g.C.ShardCore.says) c.args.shard.now.window c.args.self.now.seat c.open_block.new.view c.requires.seat.seat).0;
  kept = begun g.C.ShardCore.says g.met.C.ShardCore.shard_laws c.args.shard.now.window c.args.self.now.seat c.open_block.new.view c.args.calls.now c.args.seq c.requires.seat.seat c.requires.seat.kept
      (record { shut = c.requires.closed; fits = c.requires.open; takes = c.requires.takes }) (search rules);
}

pub returns-clause-desk : goal.returns-clause-desk
returns-clause-desk g c =
    seat_opens g.C.ShardCore.says g.met.C.ShardCore.shard_laws c.args.shard.now c.args.self.now c.requires.seat (record { seat = with_view c.args.self.now.seat c.open_block.new.view }) c.args.calls.now c.args.seq
    (record { shut = c.requires.closed; fits = c.requires.open; takes = c.requires.takes }) (search rules)
