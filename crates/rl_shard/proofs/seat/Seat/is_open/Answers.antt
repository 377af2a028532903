-- The seat's view is one that the rule allows.
use Rattle.rl_window.specs.laws.SeatLemmas.{port_known}
use Rattle.rl_shard.specs.Counting.{counting_rule}
use Rattle.rl_shard.proofs.seat.Seat.is_open.Goals as goal

pub is_open-requires : goal.is_open-requires
is_open-requires g c =
    port_known (counting_rule g.C.ShardCore.says) c.args.shard.now.window c.args.self.now.seat c.core.result.now c.view.result.now
    (record { core_is = c.core.ensures; seat = c.requires.seat; kept = c.requires.kept }) c.view.ensures
