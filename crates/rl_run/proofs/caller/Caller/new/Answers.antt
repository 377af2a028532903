use Rattle.rl_run.specs.Calling.{RankAsks}
use Rattle.rl_run.specs.laws.CallerLaws.{made_ready}
use Rattle.rl_run.proofs.caller.Caller.new.Goals as goal

pub returns-clause-caller : goal.returns-clause-caller
returns-clause-caller g c = λ shards ready.
    let asks : RankAsks = record { geom = c.args.geom; rank = c.args.rank; calls = c.args.calls.items; sizes = c.args.sizes.items } in
    made_ready g.C.ShardCore.says g.met.C.ShardCore.shard_laws shards asks c.args.seats.items ready
