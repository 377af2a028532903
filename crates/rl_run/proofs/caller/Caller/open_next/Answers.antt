use Rattle.std.proofs.Common.{◌≡◌, ◌+◌, ◌^◌, ◌<◌, ◌≤◌, length, slice_get, slice_index, Some, refl, ap, sym, subst, ◌∙◌, arith}
use Rattle.std.proofs.lemmas.Option.{slice_get-get_or}
use Rattle.rl_word.specs.laws.Places.{get_set_same}
use Rattle.rl_core.specs.Asks.{block_from, block_shard}
use Rattle.rl_shard.specs.Shards.{table_at, view_at}
use Rattle.rl_run.specs.laws.CallerLaws.{seat_is, next_there, CanOpen, can_open}
use Rattle.rl_run.proofs.caller.Caller.open_next.Goals as goal
use Rattle.rl_run.proofs.caller.Caller.open_next.Goals.{After-block_shard-at, After-index-shards-place}
use Rattle.rl_run.proofs.caller.Caller.open_next.Given.{Over}

pub block_from-block-requires-clause-sized : goal.block_from-block-requires-clause-sized
block_from-block-requires-clause-sized g c = subst (λ l. c.args.self.now.opened < length l) (sym c.as_slice-2.ensures.value) (next_there g.C.ShardCore.says g.met.C.ShardCore.shard_laws c.args.shards.now c.args.self.now c.requires.caller c.requires.closed c.requires.left).sized

pub block_from-block-requires-clause-within : goal.block_from-block-requires-clause-within
block_from-block-requires-clause-within g c =
    subst (λ l. c.args.self.now.opened + slice_index l c.args.self.now.opened ≤ length c.as_slice.result.now) (sym c.as_slice-2.ensures.value)
    (subst (λ l. c.args.self.now.opened + slice_index c.args.self.now.sizes.items c.args.self.now.opened ≤ length l) (sym c.as_slice.ensures.value) (next_there g.C.ShardCore.says g.met.C.ShardCore.shard_laws c.args.shards.now c.args.self.now c.requires.caller c.requires.closed c.requires.left).within)

-- the block, and its shard
block_is : (g : Over) (c : After-block_shard-at g) → c.block_from-block.result.now ≡ block_from c.args.self.now.calls.items c.args.self.now.sizes.items c.args.self.now.opened
block_is g c = c.block_from-block.ensures ∙ ap (λ l. block_from l c.as_slice-2.result.now c.args.self.now.opened) c.as_slice.ensures.value ∙ ap (λ l. block_from c.args.self.now.calls.items l c.args.self.now.opened) c.as_slice-2.ensures.value

place_is : (g : Over) (c : After-block_shard-at g) → c.block_shard-at.result ≡ block_shard c.args.self.now.geom (block_from c.args.self.now.calls.items c.args.self.now.sizes.items c.args.self.now.opened)
place_is g c = c.block_shard-at.ensures ∙ ap (block_shard c.args.self.now.geom) (block_is g c)

low : (g : Over) (c : After-block_shard-at g) → c.block_shard-at.result < length c.args.shards.now
low g c = subst (λ z. z < length c.args.shards.now) (sym (place_is g c)) (next_there g.C.ShardCore.says g.met.C.ShardCore.shard_laws c.args.shards.now c.args.self.now c.requires.caller c.requires.closed c.requires.left).there

low_seat : (g : Over) (c : After-block_shard-at g) → c.block_shard-at.result < length c.args.self.now.seats.items
low_seat g c = let l = c.requires.caller.row.long in let h = low g c in omega arith

pub index_mut-seat-requires : goal.index_mut-seat-requires
index_mut-seat-requires g c = let h = low_seat g (goal.at.index_mut-seat-requires g c).After-block_shard-at in let all = c.args.self.now.seats.ok.0 in omega arith

pub offset_bounds-shards-place : goal.offset_bounds-shards-place
offset_bounds-shards-place g c = let h = low g (goal.at.offset_bounds-shards-place g c).After-block_shard-at in omega arith

pub bounds-shards-place : goal.bounds-shards-place
bounds-shards-place g c = low g (goal.at.bounds-shards-place g c).After-block_shard-at

has_shard : (g : Over) (c : After-index-shards-place g) → c.block_shard-at.result < length c.args.shards.now → slice_get c.args.shards.now c.block_shard-at.result ≡ Some c.index-shards-place.result
has_shard g c h = slice_get-get_or c.args.shards.now c.block_shard-at.result c.index-shards-place.result h ∙ ap Some (sym c.index-shards-place.is)

has_seat : (g : Over) (c : After-index-shards-place g) → c.block_shard-at.result < length c.args.self.now.seats.items → slice_get c.args.self.now.seats.items c.block_shard-at.result ≡ Some c.index_mut-seat.result.now
has_seat g c h = slice_get-get_or c.args.self.now.seats.items c.block_shard-at.result c.index_mut-seat.result.now h ∙ ap Some (sym c.index_mut-seat.ensures.value)

-- the block may be opened there
opening : (g : Over) (c : After-index-shards-place g) → c.block_from-block.result.now ≡ block_from c.args.self.now.calls.items c.args.self.now.sizes.items c.args.self.now.opened →
    c.block_shard-at.result < length c.args.shards.now → c.block_shard-at.result < length c.args.self.now.seats.items →
    CanOpen g.C.ShardCore.says g.met.C.ShardCore.shard_laws c.args.shards.now c.args.self.now c.requires.caller c.requires.closed c.requires.left c.block_from-block.result.now c.block_shard-at.result c.index-shards-place.result c.index_mut-seat.result.now
opening g c block there seat =
    can_open g.C.ShardCore.says g.met.C.ShardCore.shard_laws c.args.shards.now c.args.self.now c.requires.caller c.requires.closed c.requires.left c.block_from-block.result.now c.block_shard-at.result c.index-shards-place.result c.index_mut-seat.result.now
    block c.block_shard-at.ensures (has_shard g c there) (has_seat g c seat)

pub begin_batch-requires-clause-seat : goal.begin_batch-requires-clause-seat
begin_batch-requires-clause-seat g c =
    let at = goal.at.begin_batch-requires-clause-seat g c in
    let d = at.After-index-shards-place in
    let e = at.After-block_shard-at in
    seat_is g.C.ShardCore.says g.met.C.ShardCore.shard_laws c.args.shards.now c.args.self.now c.requires.caller c.block_shard-at.result c.index-shards-place.result c.index_mut-seat.result.now (has_shard g d (low g e)) (has_seat g d (low_seat g e))

pub begin_batch-requires-clause-closed : goal.begin_batch-requires-clause-closed
begin_batch-requires-clause-closed g c =
    let at = goal.at.begin_batch-requires-clause-closed g c in
    let d = at.After-index-shards-place in
    let e = at.After-block_shard-at in
    c.requires.closed c.block_shard-at.result c.index-shards-place.result c.index_mut-seat.result.now (has_shard g d (low g e)) (has_seat g d (low_seat g e))

pub begin_batch-requires-clause-open : goal.begin_batch-requires-clause-open
begin_batch-requires-clause-open g c =
    let at = goal.at.begin_batch-requires-clause-open g c in
    let d = at.After-index-shards-place in
    let e = at.After-block_shard-at in
    (opening g d (block_is g e) (low g e) (low_seat g e)).fits

pub begin_batch-requires-clause-takes : goal.begin_batch-requires-clause-takes
begin_batch-requires-clause-takes g c =
    let at = goal.at.begin_batch-requires-clause-takes g c in
    let d = at.After-index-shards-place in
    let e = at.After-block_shard-at in
    (opening g d (block_is g e) (low g e) (low_seat g e)).takes

-- with it as many calls are opened as a number of 32 bits counts
few : (g : Over) (c : After-block_shard-at g) → c.args.self.now.opened + length c.block_from-block.result.now < 2 ^ 32
few g c =
    let n = next_there g.C.ShardCore.says g.met.C.ShardCore.shard_laws c.args.shards.now c.args.self.now c.requires.caller c.requires.closed c.requires.left in let f = n.fits in let l = n.long in let b = ap length (block_is g c) in omega arith

pub overflow_cast-self : goal.overflow_cast-self
overflow_cast-self g c = let h = few g (goal.at.overflow_cast-self g c).After-block_shard-at in omega arith

pub overflow_add-self : goal.overflow_add-self
overflow_add-self g c = let h = few g (goal.at.overflow_add-self g c).After-block_shard-at in omega arith

pub returns-clause-caller : goal.returns-clause-caller
returns-clause-caller g c =
    let at = goal.at.returns-clause-caller g c in
    let d = at.After-index-shards-place in
    let e = at.After-block_shard-at in
    ((opening g d (block_is g e) (low g e) (low_seat g e)).opens
    c.begin_batch.new.self c.begin_batch.ensures.seat c.begin_batch.ensures.rank c.begin_batch.ensures.opened).0

pub returns-clause-is_open : goal.returns-clause-is_open
returns-clause-is_open g c =
    let at = goal.at.returns-clause-is_open g c in
    let d = at.After-index-shards-place in
    let e = at.After-block_shard-at in
    λ all. ((opening g d (block_is g e) (low g e) (low_seat g e)).opens
    c.begin_batch.new.self c.begin_batch.ensures.seat c.begin_batch.ensures.rank c.begin_batch.ensures.opened).1
    (all c.block_shard-at.result c.index-shards-place.result c.begin_batch.new.self (has_shard g d (low g e)) (get_set_same c.args.self.now.seats.items c.block_shard-at.result c.index_mut-seat.result.now c.begin_batch.new.self (has_seat g d (low_seat g e))))

pub returns-clause-opens : goal.returns-clause-opens
returns-clause-opens g c =
    let at = goal.at.returns-clause-opens g c in
    let d = at.After-index-shards-place in
    let e = at.After-block_shard-at in
    let n = next_there g.C.ShardCore.says g.met.C.ShardCore.shard_laws c.args.shards.now c.args.self.now c.requires.caller c.requires.closed c.requires.left in
    record {
      closed = c.requires.closed;
      left = c.requires.left;
      opened_is = ap (λ k. c.args.self.now.opened + k) (ap length (block_is g e) ∙ n.long);
      at_is = place_is g e;
      shard = c.index-shards-place.result;
      old = c.index_mut-seat.result.now;
      new = c.begin_batch.new.self;
      has_shard = has_shard g d (low g e);
      has_old = has_seat g d (low_seat g e);
      view_is = c.begin_batch.ensures.opened ∙ ap (λ b. (table_at g.C.ShardCore.says c.index-shards-place.result).opened b c.args.self.now.opened (view_at c.index_mut-seat.result.now)) (block_is g e);
      no_step = c.begin_batch.ensures.no_step;
      seats_are = refl;
      is_open = λ all. ((opening g d (block_is g e) (low g e) (low_seat g e)).opens
          c.begin_batch.new.self c.begin_batch.ensures.seat c.begin_batch.ensures.rank c.begin_batch.ensures.opened).1
          (all c.block_shard-at.result c.index-shards-place.result c.begin_batch.new.self (has_shard g d (low g e)) (get_set_same c.args.self.now.seats.items c.block_shard-at.result c.index_mut-seat.result.now c.begin_batch.new.self (has_seat g d (low_seat g e))));
    }
