use Rattle.std.proofs.Common.{◌≡◌, slice_get, Some, ap, sym, ◌∙◌}
use Rattle.std.proofs.lemmas.Option.{slice_get-get_or}
use Rattle.rl_run.specs.laws.CallerLaws.{at_there, at_seat, seat_is, all_closed}
use Rattle.rl_run.proofs.caller.Caller.is_open.Goals as goal
use Rattle.rl_run.proofs.caller.Caller.is_open.Goals.{After-index-shards-at}
use Rattle.rl_run.proofs.caller.Caller.is_open.Given.{Over}

-- the shard where the last block was opened, and the seat there
has_shard : (g : Over) (c : After-index-shards-at g) → slice_get c.args.shards.now c.args.self.now.at ≡ Some c.index-shards-at.result
has_shard g c = slice_get-get_or c.args.shards.now c.args.self.now.at c.index-shards-at.result (at_there g.C.ShardCore.says g.met.C.ShardCore.shard_laws c.args.shards.now c.args.self.now c.requires.caller) ∙ ap Some (sym c.index-shards-at.is)

has_seat : (g : Over) (c : After-index-shards-at g) → slice_get c.args.self.now.seats.items c.args.self.now.at ≡ Some c.index-seat.result.now
has_seat g c = slice_get-get_or c.args.self.now.seats.items c.args.self.now.at c.index-seat.result.now (at_seat g.C.ShardCore.says g.met.C.ShardCore.shard_laws c.args.shards.now c.args.self.now c.requires.caller) ∙ ap Some (sym c.index-seat.ensures)

pub is_open-requires : goal.is_open-requires
is_open-requires g c =
    let at = goal.at.is_open-requires g c in
    let d = at.After-index-shards-at in
    seat_is g.C.ShardCore.says g.met.C.ShardCore.shard_laws c.args.shards.now c.args.self.now c.requires.caller c.args.self.now.at c.index-shards-at.result c.index-seat.result.now (has_shard g d) (has_seat g d)

pub returns : goal.returns
returns g c =
    let d = (goal.at.returns g c).After-index-shards-at in (
      λ e. all_closed g.C.ShardCore.says g.met.C.ShardCore.shard_laws c.args.shards.now c.args.self.now c.requires.caller c.index-shards-at.result c.index-seat.result.now (has_shard g d) (has_seat g d) (sym c.is_open.ensures ∙ e),
      λ closed. c.is_open.ensures ∙ (closed c.args.self.now.at c.index-shards-at.result c.index-seat.result.now (has_shard g d) (has_seat g d)),
    )
