-- What the view tells is so of the rank where it stands.
use Rattle.rl_machine.proofs.state.MachineState.is_open.Goals as goal

pub is_open-requires : goal.is_open-requires
is_open-requires g c =
    let s = c.shard_of_rank-shard.result.now in
    let good = c.shard_of_rank-shard.ensures.good in
    record { held = s.flat.words; views = s.flat.views.items; rank = c.args.rank; is_ruled = g.met.C.ShardCore.ruled s.core _ good.is_good; has = c.view.ensures }
