-- A shard, and the seats of its ranks.
use Rattle.std.specs.Prelude.{◌≡◌, ◌<◌, ◌≤◌, ℕ, false, List, map, sum, slice_get, Option, Some}
use Rattle.rl_word.specs.declared.acts.Atom.{Atom}
use Rattle.rl_model.specs.declared.call.Call.{Call}
use Rattle.rl_model.specs.declared.entry.Entry.{Entry}
use Rattle.rl_model.specs.Geom.{GeomFits}
use Rattle.rl_step.specs.declared.tallies.Tally.{Tally}
use Rattle.rl_step.specs.Do.{TheWindow}
use Rattle.rl_site.specs.Opens.{IsOpen}
use Rattle.rl_core.specs.Desks.{Desk, desk_entries}
use Rattle.rl_core.specs.ShardTables.{ShardTable}
use Rattle.rl_core.specs.Moments.{CoreSays}
use Rattle.rl_window.specs.Seats.{IsSeatOf, IsKept, HasSeats, core_of, view_of, seat_rank, table_steps}
use Rattle.rl_shard.specs.declared.shard.Shard.{Shard}
use Rattle.rl_shard.specs.declared.seat.Seat.{Seat}
use Rattle.rl_shard.specs.declared.counting.Counting.{Counting}
use Rattle.rl_shard.specs.declared.counting.CountedView.{CountedView}
use Rattle.rl_shard.specs.Counting.{first_counted, counting_rule}

module _ {C V : Type 0} where
  -- the machine of the shard's ranks with their tallies, and without
  abbrev pub counting_at : Shard C V → Counting C V
  counting_at shard = core_of shard.window

  abbrev pub core_at : Shard C V → C
  core_at shard = (counting_at shard).whole

  -- what a seat's rank knows: all of it, its machine's view, and its tallies of the queues
  abbrev pub counted_at : Seat C V → CountedView V
  counted_at s = view_of s.seat

  abbrev pub view_at : Seat C V → V
  view_at s = (counted_at s).whole

  abbrev pub tallies_at : Seat C V → List Tally
  tallies_at s = (counted_at s).tallies

  -- the rank's number, and how many table steps the seat has made
  abbrev pub rank_at : Seat C V → ℕ
  rank_at s = seat_rank s.seat

  abbrev pub steps_at : Seat C V → ℕ
  steps_at s = table_steps s.seat

  module _ (says : C → CoreSays V) where
    -- what is said of the machine of the shard's ranks; and the machine as plain functions
    abbrev pub says_at : Shard C V → CoreSays V
    says_at shard = says (core_at shard)

    abbrev pub table_at : Shard C V → ShardTable V
    table_at shard = (says_at shard).table

    -- the shard has so many ranks, and all its seats were given; the table has a size that there is, and few updates are made
    pub record IsShardOf (ranks : ℕ) (shard : Shard C V) : Type 0 where
      pub seats : HasSeats shard.window ranks
      pub some : 0 < ranks
      pub fits : GeomFits (table_at shard).site.geom
      pub few : sum (table_at shard).site.rooms ≤ 20000

    -- the rank's desk at the shard, as its own view has it, and its entries there
    abbrev pub desk_at : Shard C V → Seat C V → Desk
    desk_at shard s = (table_at shard).own (view_at s)

    abbrev pub entries_at : Shard C V → Seat C V → List Entry
    entries_at shard s = desk_entries (desk_at shard s)

    -- the next atom of the seat's open block; none where no block is open
    abbrev pub next_at : Shard C V → Seat C V → Option Atom
    next_at shard s = (table_at shard).core.next (view_at s)

    -- the block, whose first call has this number, fits the rank on the shard
    abbrev pub FitsSeat : Shard C V → Seat C V → List Call → ℕ → Type 0
    FitsSeat shard s calls seq = IsOpen (table_at shard).site (rank_at s) calls seq (desk_at shard s).kept

    -- the seats have the first views, with a tally of nothing for each of so many queues, and with these rooms for the ranks' entries
    abbrev pub AreFirst : Shard C V → List (Seat C V) → ℕ → List ℕ → Type 0
    AreFirst shard seats queues rooms = map counted_at seats ≡ first_counted (table_at shard) queues rooms

    -- no block of the seat is open, and of no seat
    abbrev pub IsClosed : Shard C V → Seat C V → Type 0
    IsClosed shard s = (desk_at shard s).is_open ≡ false

    abbrev pub AreClosed : Shard C V → List (Seat C V) → Type 0
    AreClosed shard seats = (r : ℕ) (s : Seat C V) → slice_get seats r ≡ Some s → IsClosed shard s

    -- the seat is the shard's, and its view is one that the rule allows
    pub record IsOf (shard : Shard C V) (s : Seat C V) : Type 0 where
      pub seat : IsSeatOf (counting_rule says) shard.window s.seat
      pub kept : IsKept (counting_rule says) shard.window s.seat

    -- the seats are the shard's, in the order of the ranks
    abbrev pub AreOf : Shard C V → List (Seat C V) → Type 0
    AreOf shard seats = (r : ℕ) (s : Seat C V) → slice_get seats r ≡ Some s → (rank_at s ≡ r) × IsOf shard s

    -- this holds of the views of all ranks in each state of the shard's window that meets its rule
    abbrev pub AtEachState : Shard C V → (List (CountedView V) → Type 0) → Type 0
    AtEachState shard P = (h : TheWindow) (vs : List (CountedView V)) → counting_rule says (counting_at shard) h vs → P vs
