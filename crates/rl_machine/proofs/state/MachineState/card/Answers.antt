-- The view is one that may be.
use Rattle.rl_machine.proofs.state.MachineState.card.Goals as goal

pub card-requires : goal.card-requires
card-requires g c =
    let s = c.shard_of_rank-shard.result.now in
    let good = c.shard_of_rank-shard.ensures.good in
    record { held = s.flat.words; views = s.flat.views.items; rank = c.args.rank; is_ruled = g.met.C.ShardCore.ruled s.core _ good.is_good; has = c.view.ensures }
