-- The rank's view on the shard where it was seen last says it.
use Rattle.std.proofs.Common.{sym}
use Rattle.rl_machine.specs.laws.IdleLaws.{seen_goes}
use Rattle.rl_machine.proofs.state.MachineState.round.Goals as goal

pub round-requires : goal.round-requires
round-requires g c =
    let s = c.shard-shard.result.now in
    let good = c.shard-shard.ensures.good in
    (record { held = s.flat.words; views = s.flat.views.items; rank = c.args.rank; is_ruled = g.met.C.ShardCore.ruled s.core _ good.is_good; has = c.view.ensures }, sym c.words.ensures)

pub returns : goal.returns
returns g c =
    let there = c.shard-shard.ensures in
    seen_goes g.C.ShardCore.says g.met.C.ShardCore.shard_laws c.args.self.now c.requires.good c.args.rank c.in_ok-place.place c.requires.there c.shard-shard.result.now c.view.result.now
    there.has there.good c.view.ensures c.words.result.now c.words.ensures g.C.Resting.with_sight c.in_ok-round.round c.in_ok-round.ensures
