-- What is known of the caller of a rank, for the seats and shards of a run.
use Rattle.std.specs.Prelude.{◌≡◌, ℕ, ◌+◌, ◌<◌, false, List, [], ◌∷◌, length, map, slice_get, slice_set, Some, refl}
use Rattle.std.proofs.Common.{sym, ◌∙◌, ap, subst, set-set}
use Rattle.rl_word.specs.laws.Places.{get_set_same, set_same_get}
use Rattle.rl_model.specs.declared.call.Call.{Call}
use Rattle.rl_core.specs.Moments.{CoreSays}
use Rattle.rl_core.specs.ShardLaws.{LawsOf}
use Rattle.rl_journal.specs.Ranks.{IsRankInOrder}
use Rattle.rl_core.specs.Asks.{asked_of, block_from, block_shard}
use Rattle.rl_core.specs.Desks.{desk_entries}
use Rattle.rl_core.specs.RankGood.{entries_in}
use Rattle.rl_shard.specs.declared.shard.Shard.{Shard}
use Rattle.rl_shard.specs.declared.seat.Seat.{Seat}
use Rattle.rl_shard.specs.Shards.{IsOf, IsClosed, FitsSeat, table_at, view_at, entries_at, rank_at}
use Rattle.rl_shard.specs.laws.SeatLaws.{seat_fine, seat_opens}
use Rattle.rl_shard.specs.Steps.{TurnsAt}
use Rattle.rl_run.specs.declared.caller.Caller.{Caller}
use Rattle.rl_run.specs.Calling.{RankAsks, CallerAt, IsCallerAt, IsReadyAt, desks_of}
use Rattle.rl_run.specs.laws.CallingLaws as calling
use Rattle.rl_run.specs.Callers.{entries_on, seats_say, caller_at, AllClosed, IsAtEnd, IsCaller, IsCallerWith}

module _ {C V : Type 0} (says : C → CoreSays V) (laws : LawsOf says) where
  pub hold : calling.SeatsHold (seats_say says)
  hold = record { fine = seat_fine says laws; shut = λ w t is e. e; closed_by = λ w t is e. e }

  -- the entries of the seats are those of the rank's desks
  entries_are : (ws : List (Shard C V)) (ts : List (Seat C V)) → map desk_entries (desks_of (seats_say says) ws ts) ≡ entries_on says ws ts
  entries_are [] ts = refl
  entries_are (w ∷ ws) [] = refl
  entries_are (w ∷ ws) (t ∷ ts) = ap (λ z. entries_at says w t ∷ z) (entries_are ws ts)

  pub made_ready : (shards : List (Shard C V)) (a : RankAsks) (seats : List (Seat C V)) → IsReadyAt (seats_say says) shards a seats →
      IsCallerAt (seats_say says) shards (record { asks = a; opened = 0; at = 0; seats = seats })
  made_ready shards a seats r = calling.caller_begins (seats_say says) hold shards a seats r

  module _ (shards : List (Shard C V)) (c : Caller C V) (is : IsCaller says shards c) where
    pub at_there : c.at < length shards
    at_there = calling.at_there (seats_say says) hold shards (caller_at c) is

    pub at_seat : c.at < length c.seats.items
    at_seat = calling.at_seat (seats_say says) hold shards (caller_at c) is

    pub seat_is : (s : ℕ) (w : Shard C V) (t : Seat C V) → slice_get shards s ≡ Some w → slice_get c.seats.items s ≡ Some t → IsOf says w t
    seat_is s w t gw gt = (is.row.each s w t gw gt).1

    pub all_closed : (w : Shard C V) (t : Seat C V) → slice_get shards c.at ≡ Some w → slice_get c.seats.items c.at ≡ Some t → IsClosed says w t → AllClosed says shards c.seats.items
    all_closed w t gw gt closed = calling.all_closed (seats_say says) hold shards (caller_at c) is w t gw gt closed

    -- the caller with another seat where its last block was opened
    abbrev with_seat : Seat C V → CallerAt (Seat C V)
    with_seat t = record (caller_at c) { seats = slice_set c.seats.items c.at t }

    pub steps_on : (w : Shard C V) (t u : Seat C V) → slice_get shards c.at ≡ Some w → slice_get c.seats.items c.at ≡ Some t → IsOf says w u → rank_at u ≡ rank_at t → TurnsAt says w t u →
        IsCallerWith says shards c u
    steps_on w t u gw gt ok same turns = calling.caller_steps (seats_say says) hold shards (caller_at c) is w t u gw gt ok same turns

    -- the caller with the seat that it has; and with one that was reached by steps: it steps on, and no block is open once none is open there
    module _ (w : Shard C V) (s : Seat C V) (gw : slice_get shards c.at ≡ Some w) (gs : slice_get c.seats.items c.at ≡ Some s) where
      pub first_with : IsCallerWith says shards c s
      first_with = subst (λ l. IsCallerAt (seats_say says) shards (record (caller_at c) { seats = l })) (sym (set_same_get c.seats.items c.at s gs)) is

      pub seat_with : (t : Seat C V) → IsCallerWith says shards c t → IsOf says w t
      seat_with t with = (with.row.each c.at w t gw (get_set_same c.seats.items c.at s t gs)).1

      pub steps_with : (t u : Seat C V) → IsCallerWith says shards c t → IsOf says w u → rank_at u ≡ rank_at t → TurnsAt says w t u → IsCallerWith says shards c u
      steps_with t u with ok same turns =
          subst (λ l. IsCallerAt (seats_say says) shards (record (caller_at c) { seats = l })) (set-set c.seats.items c.at t u)
          (calling.caller_steps (seats_say says) hold shards (with_seat t) with w t u gw (get_set_same c.seats.items c.at s t gs) ok same turns)

      pub closed_with : (t : Seat C V) → IsCallerWith says shards c t → IsClosed says w t → AllClosed says shards (slice_set c.seats.items c.at t)
      closed_with t with closed = calling.all_closed (seats_say says) hold shards (with_seat t) with w t gw (get_set_same c.seats.items c.at s t gs) closed

    pub still_closed : (t u : Seat C V) → slice_get c.seats.items c.at ≡ Some t → u ≡ t → AllClosed says shards c.seats.items → AllClosed says shards (slice_set c.seats.items c.at u)
    still_closed t u gt same closed = calling.still_closed (seats_say says) hold shards (caller_at c) is t u gt same closed

    pub ended : AllClosed says shards c.seats.items → c.opened ≡ length c.calls.items → IsAtEnd says shards c
    ended closed e = record {
      closed = closed;
      order = subst (IsRankInOrder c.geom c.rank (asked_of c.calls.items c.sizes.items) (length c.calls.items)) (entries_are shards c.seats.items)
          (calling.caller_ends (seats_say says) hold shards (caller_at c) is closed e);
      total = ap entries_in (sym (entries_are shards c.seats.items)) ∙ calling.caller_told (seats_say says) hold shards (caller_at c) is closed e;
    }

    module _ (closed : AllClosed says shards c.seats.items) (left : c.opened < length c.calls.items) where
      pub next_there : calling.IsNextThere (seats_say says) hold shards (caller_at c) is closed left
      next_there = calling.next_there (seats_say says) hold shards (caller_at c) is closed left

      -- it may be opened; and once it is, the caller is in it
      pub record CanOpen (block : List Call) (place : ℕ) (w : Shard C V) (t : Seat C V) : Type 0 where
        pub fits : FitsSeat says w t block c.opened
        pub takes : (table_at says w).batches ≡ false → length block ≡ 1
        pub opens : (u : Seat C V) → IsOf says w u → rank_at u ≡ rank_at t → view_at u ≡ (table_at says w).opened block c.opened (view_at t) →
            IsCallerAt (seats_say says) shards (record (caller_at c) { opened = c.opened + length block; at = place; seats = slice_set c.seats.items place u }) × (IsClosed says w u → ⊥)

      pub can_open : (block : List Call) (place : ℕ) (w : Shard C V) (t : Seat C V) → block ≡ block_from c.calls.items c.sizes.items c.opened → place ≡ block_shard c.geom block →
          slice_get shards place ≡ Some w → slice_get c.seats.items place ≡ Some t → CanOpen block place w t
      can_open block place w t e1 e2 gw gt =
          let can = calling.can_open (seats_say says) hold shards (caller_at c) is closed left block place w t e1 e2 gw gt in
          record {
            fits = can.fits;
            takes = can.takes;
            opens = λ u of same made. can.opens u of same
                (seat_opens says laws w t (is.row.each place w t gw gt).1 u block c.opened (record { shut = closed place w t gw gt; fits = can.fits; takes = can.takes }) made);
          }
