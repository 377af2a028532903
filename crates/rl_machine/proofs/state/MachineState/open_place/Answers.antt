-- A rank whose view on the shard of its last block is open stands there.
use Rattle.std.proofs.Common.{sym, ◌∙◌}
use Rattle.rl_machine.specs.laws.Stands.{open_stands, open_opens}
use Rattle.rl_machine.proofs.state.MachineState.open_place.Goals as goal

pub is_open-requires : goal.is_open-requires
is_open-requires g c =
    let s = c.shard-shard.result.now in
    let good = c.shard-shard.ensures.good in
    record { held = s.flat.words; views = s.flat.views.items; rank = c.args.rank; is_ruled = g.met.C.ShardCore.ruled s.core _ good.is_good; has = c.view.ensures }

pub returns-then-is_open-clause-stands : goal.returns-then-is_open-clause-stands
returns-then-is_open-clause-stands g c =
    sym (open_stands g.C.ShardCore.says g.met.C.ShardCore.shard_laws c.args.self.now c.requires.good c.args.rank c.in_ok-place.place c.requires.there
    c.shard-shard.result.now c.view.result.now c.shard-shard.ensures.has c.shard-shard.ensures.good c.view.ensures (sym c.is_open.ensures ∙ c.if-is_open.true))

pub returns-then-is_open-clause-open : goal.returns-then-is_open-clause-open
returns-then-is_open-clause-open g c =
    open_opens g.C.ShardCore.says g.met.C.ShardCore.shard_laws c.args.self.now c.requires.good c.args.rank c.in_ok-place.place c.requires.there
    c.shard-shard.result.now c.view.result.now c.shard-shard.ensures.has c.shard-shard.ensures.good c.view.ensures (sym c.is_open.ensures ∙ c.if-is_open.true)
