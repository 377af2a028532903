use Rattle.std.proofs.Common.{◌≡◌, slice_get, Some, refl, ap, sym, ◌∙◌}
use Rattle.std.proofs.lemmas.Option.{slice_get-get_or}
use Rattle.rl_run.specs.laws.CallerLaws.{at_there, at_seat, seat_is, all_closed, steps_on, still_closed}
use Rattle.rl_run.proofs.caller.Caller.step_last.Goals as goal
use Rattle.rl_run.proofs.caller.Caller.step_last.Goals.{After-index-shards-at}
use Rattle.rl_run.proofs.caller.Caller.step_last.Given.{Over}

-- the shard where the last block was opened, and the seat there
has_shard : (g : Over) (c : After-index-shards-at g) → slice_get c.args.shards.now c.args.self.now.at ≡ Some c.index-shards-at.result
has_shard g c = slice_get-get_or c.args.shards.now c.args.self.now.at c.index-shards-at.result (at_there g.C.ShardCore.says g.met.C.ShardCore.shard_laws c.args.shards.now c.args.self.now c.requires.caller) ∙ ap Some (sym c.index-shards-at.is)

has_seat : (g : Over) (c : After-index-shards-at g) → slice_get c.args.self.now.seats.items c.args.self.now.at ≡ Some c.index_mut-seat.result.now
has_seat g c = slice_get-get_or c.args.self.now.seats.items c.args.self.now.at c.index_mut-seat.result.now (at_seat g.C.ShardCore.says g.met.C.ShardCore.shard_laws c.args.shards.now c.args.self.now c.requires.caller) ∙ ap Some (sym c.index_mut-seat.ensures.value)

pub step-requires : goal.step-requires
step-requires g c =
    let d = (goal.at.step-requires g c).After-index-shards-at in
    record {
      seat = seat_is g.C.ShardCore.says g.met.C.ShardCore.shard_laws c.args.shards.now c.args.self.now c.requires.caller c.args.self.now.at c.index-shards-at.result c.index_mut-seat.result.now (has_shard g d) (has_seat g d);
    }

pub returns-clause-caller : goal.returns-clause-caller
returns-clause-caller g c =
    let d = (goal.at.returns-clause-caller g c).After-index-shards-at in
    steps_on g.C.ShardCore.says g.met.C.ShardCore.shard_laws c.args.shards.now c.args.self.now c.requires.caller c.index-shards-at.result c.index_mut-seat.result.now c.step.new.self (has_shard g d) (has_seat g d) c.step.ensures.step.seat c.step.ensures.step.rank c.step.ensures.step.turned

pub returns-clause-steps : goal.returns-clause-steps
returns-clause-steps g c =
    let d = (goal.at.returns-clause-steps g c).After-index-shards-at in
    record {
      opened_is = refl;
      at_is = refl;
      shard = c.index-shards-at.result;
      old = c.index_mut-seat.result.now;
      new = c.step.new.self;
      has_shard = has_shard g d;
      has_old = has_seat g d;
      seats_are = refl;
      step = c.step.ensures.step;
    }

pub returns-clause-finished : goal.returns-clause-finished
returns-clause-finished g c =
    let d = (goal.at.returns-clause-finished g c).After-index-shards-at in
    λ f. all_closed g.C.ShardCore.says g.met.C.ShardCore.shard_laws c.args.shards.now c.args.self.now c.requires.caller c.index-shards-at.result c.index_mut-seat.result.now (has_shard g d) (has_seat g d) (c.step.ensures.step.finished.0 f)

pub returns-clause-still : goal.returns-clause-still
returns-clause-still g c =
    let d = (goal.at.returns-clause-still g c).After-index-shards-at in
    λ closed. still_closed g.C.ShardCore.says g.met.C.ShardCore.shard_laws c.args.shards.now c.args.self.now c.requires.caller c.index_mut-seat.result.now c.step.new.self (has_seat g d) (c.step.ensures.step.nothing (closed c.args.self.now.at c.index-shards-at.result c.index_mut-seat.result.now (has_shard g d) (has_seat g d))) closed

pub returns-clause-closed : goal.returns-clause-closed
returns-clause-closed g c =
    let d = (goal.at.returns-clause-closed g c).After-index-shards-at in
    λ closed. c.step.ensures.step.finished.1 (closed c.args.self.now.at c.index-shards-at.result c.index_mut-seat.result.now (has_shard g d) (has_seat g d))
