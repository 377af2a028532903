-- The caller of a rank: its seats on all shards, how it steps, and what is known once all its calls are done.
use Rattle.std.specs.Prelude.{◌≡◌, ◌⊎◌, ◌<◌, ℕ, ◌+◌, List, [], ◌∷◌, length, slice_get, slice_index, slice_set, Some}
use Rattle.rl_model.specs.declared.call.Call.{Call}
use Rattle.rl_model.specs.declared.entry.Entry.{Entry}
use Rattle.rl_model.specs.declared.geom.Geom.{Geom}
use Rattle.rl_journal.specs.Ranks.{IsRankInOrder}
use Rattle.rl_step.specs.declared.events.Stepped.{Stepped}
use Rattle.rl_core.specs.Moments.{CoreSays}
use Rattle.rl_core.specs.Asks.{asked_of, block_from, block_shard}
use Rattle.rl_core.specs.RankGood.{entries_in}
use Rattle.rl_shard.specs.declared.shard.Shard.{Shard}
use Rattle.rl_shard.specs.declared.seat.Seat.{Seat}
use Rattle.rl_shard.specs.Shards.{IsOf, IsClosed, table_at, view_at, desk_at, entries_at, rank_at, steps_at}
use Rattle.rl_shard.specs.Steps.{IsSeatStep}
use Rattle.rl_run.specs.declared.caller.Caller.{Caller}
use Rattle.rl_run.specs.Calling.{SeatsSay, RankAsks, CallerAt, IsCallerAt, IsReadyAt}

module _ {C V : Type 0} where
  -- whose caller it is: the rank, its calls with their sizes, and the table's size
  abbrev pub who : Caller C V → ℕ × List Call × List ℕ × Geom
  who c = (c.rank, c.calls.items, c.sizes.items, c.geom)

  abbrev pub seats_of : Caller C V → List (Seat C V)
  seats_of c = c.seats.items

  -- what its rank asks for; and the caller with how far it is
  abbrev pub asks_of : Caller C V → RankAsks
  asks_of c = record { geom = c.geom; rank = c.rank; calls = c.calls.items; sizes = c.sizes.items }

  abbrev pub caller_at : Caller C V → CallerAt (Seat C V)
  caller_at c = record { asks = asks_of c; opened = c.opened; at = c.at; seats = c.seats.items }

  module _ (says : C → CoreSays V) where
    -- what is said of the shards and seats of a run
    abbrev pub seats_say : SeatsSay (Shard C V) (Seat C V)
    seats_say = record {
      site = λ w. (table_at says w).site;
      batches = λ w. (table_at says w).batches;
      desk = desk_at says;
      rank_of = rank_at;
      Is = IsOf says;
      Closed = IsClosed says;
    }

    -- the entries of a rank's seats, one at each of these shards
    abbrev pub entries_on : List (Shard C V) → List (Seat C V) → List (List Entry)
    entries_on [] seats = []
    entries_on (w ∷ ws) [] = []
    entries_on (w ∷ ws) (t ∷ seats) = entries_at says w t ∷ entries_on ws seats

    -- no block of any of the seats is open
    abbrev pub AllClosed : List (Shard C V) → List (Seat C V) → Type 0
    AllClosed shards seats = (s : ℕ) (w : Shard C V) (t : Seat C V) → slice_get shards s ≡ Some w → slice_get seats s ≡ Some t → IsClosed says w t

    -- the caller's next block, which is its next calls of this size, is opened on the shard of its calls
    pub record Opens (shards : List (Shard C V)) (c d : Caller C V) : Type 0 where
      pub closed : AllClosed shards c.seats.items
      pub left : c.opened < length c.calls.items
      pub opened_is : d.opened ≡ c.opened + slice_index c.sizes.items c.opened
      pub at_is : d.at ≡ block_shard c.geom (block_from c.calls.items c.sizes.items c.opened)
      pub shard : Shard C V
      pub old : Seat C V
      pub new : Seat C V
      pub has_shard : slice_get shards d.at ≡ Some shard
      pub has_old : slice_get c.seats.items d.at ≡ Some old
      pub view_is : view_at new ≡ (table_at says shard).opened (block_from c.calls.items c.sizes.items c.opened) c.opened (view_at old)
      pub no_step : steps_at new ≡ steps_at old
      pub seats_are : d.seats.items ≡ slice_set c.seats.items d.at new
      pub is_open : AllClosed shards d.seats.items → ⊥

    -- a block is open, or none is left: the caller stays as it is
    pub record HasNone (shards : List (Shard C V)) (c d : Caller C V) : Type 0 where
      pub stays : d ≡ c
      pub none_left : AllClosed shards c.seats.items → c.opened ≡ length c.calls.items

    -- the next block is opened, where none is open and one is left
    abbrev pub OpensDue : List (Shard C V) → Caller C V → Caller C V → Type 0
    OpensDue shards c d = Opens shards c d ⊎ HasNone shards c d

    -- all calls of the rank are done, each once and in its order, and no block is open
    pub record IsAtEnd (shards : List (Shard C V)) (c : Caller C V) : Type 0 where
      pub closed : AllClosed shards c.seats.items
      pub order : IsRankInOrder c.geom c.rank (asked_of c.calls.items c.sizes.items) (length c.calls.items) (entries_on shards c.seats.items)
      pub total : entries_in (entries_on shards c.seats.items) ≡ length c.calls.items

    -- no block is open, and no call is left
    abbrev pub HasNothingLeft : List (Shard C V) → Caller C V → Type 0
    HasNothingLeft shards c = AllClosed shards c.seats.items × (c.opened ≡ length c.calls.items)

    -- a caller on these shards, which are those of its seats
    abbrev pub IsCaller : List (Shard C V) → Caller C V → Type 0
    IsCaller shards c = IsCallerAt seats_say shards (caller_at c)

    -- the caller's work is done: what it was before stays, and all its calls are made
    abbrev pub HasWorked : List (Shard C V) → Caller C V → Caller C V → Type 0
    HasWorked shards c d = IsCaller shards d × IsAtEnd shards d × (who d ≡ who c)

    -- what a caller is once its seat at the shard of its last block has become this one
    abbrev pub IsCallerWith : List (Shard C V) → Caller C V → Seat C V → Type 0
    IsCallerWith shards c t = IsCallerAt seats_say shards (record (caller_at c) { seats = slice_set c.seats.items c.at t })

    -- what a caller is made of
    abbrev pub IsReady : List (Shard C V) → Geom → ℕ → List Call → List ℕ → List (Seat C V) → Type 0
    IsReady shards geom rank calls sizes seats = IsReadyAt seats_say shards (record { geom = geom; rank = rank; calls = calls; sizes = sizes }) seats

    -- the caller steps the seat at the shard where its last block was opened
    pub record StepsSeat (shards : List (Shard C V)) (c d : Caller C V) (answer : Stepped) : Type 0 where
      pub opened_is : d.opened ≡ c.opened
      pub at_is : d.at ≡ c.at
      pub shard : Shard C V
      pub old : Seat C V
      pub new : Seat C V
      pub has_shard : slice_get shards c.at ≡ Some shard
      pub has_old : slice_get c.seats.items c.at ≡ Some old
      pub seats_are : d.seats.items ≡ slice_set c.seats.items c.at new
      pub step : IsSeatStep says shard old new answer

    -- one step of a caller: it opens the next block, where none is open and one is left, and then steps the seat at that shard
    pub record IsStep (shards : List (Shard C V)) (c d : Caller C V) (answer : Stepped) : Type 0 where
      pub between : Caller C V
      pub opens : OpensDue shards c between
      pub steps : StepsSeat shards between d answer
