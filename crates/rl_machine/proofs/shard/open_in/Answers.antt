-- Opening a block keeps what is good.
use Rattle.std.proofs.Common.{subst, sym, slice_set}
use Rattle.rl_machine.specs.State.{flat_moment}
use Rattle.rl_machine.proofs.shard.open_in.Goals as goal

pub open_block-requires-clause-possible : goal.open_block-requires-clause-possible
open_block-requires-clause-possible g c =
    let core = c.args.core.now in
    let good = c.requires.good in
    let flat = c.args.flat.now in
    record { held = flat.words; views = flat.views.items; rank = c.args.rank; is_ruled = g.met.C.ShardCore.ruled core _ good.is_good; has = c.view_mut.ensures.value }

pub open_block-requires-clause-closed : goal.open_block-requires-clause-closed
open_block-requires-clause-closed g c = c.requires.closed c.view_mut.result.now c.view_mut.ensures.value

pub returns-clause-keeps : goal.returns-clause-keeps
returns-clause-keeps g c = λ t ds good.
    let core = c.args.core.now in
    let flat = c.args.flat.now in
    let x = c.view_mut.result.now in
    subst (λ y. (g.C.ShardCore.says core).good (record (flat_moment flat t ds) { views = slice_set flat.views.items c.args.rank y })) (sym c.open_block.ensures)
    ((g.met.C.ShardCore.shard_laws core).open_keeps (flat_moment flat t ds) c.args.rank x c.args.calls.now c.args.seq (record { is_good = good; has = c.view_mut.ensures.value })
    (c.requires.fits x c.view_mut.ensures.value))
