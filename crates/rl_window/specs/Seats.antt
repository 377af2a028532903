-- A rank's seat at a window, and all its seats.
use Rattle.std.specs.Prelude.{◌≡◌, ℕ, ◌+◌, List, [], ◌∷◌, ◌++◌, length, map, slice_get, Some, None}
use Rattle.rl_word.specs.declared.acts.Atom.{Atom}
use Rattle.rl_step.specs.declared.events.Event.{Event}
use Rattle.rl_step.specs.declared.events.Stepped.{Stepped}
use Rattle.rl_step.specs.Do.{TheWindow}
use Rattle.rl_step.specs.Core.{CoreTable, Performs}
use Rattle.rl_window.specs.declared.knows.RootKnows.{RootKnows}
use Rattle.rl_window.specs.declared.knows.Setup.{Setup}
use Rattle.rl_window.specs.declared.knows.RankKnows.{RankKnows}
use Rattle.atomic_table.specs.Seated.{TableId}
use Rattle.atomic_table.specs.declared.shared.Seat.{Seat}
use Rattle.rl_window.specs.declared.knows.Knows.{Knows}
use Rattle.rl_window.specs.declared.knows.Knows.TheVariants.{Root, Rank}
use Rattle.rl_window.specs.declared.window.Window.{Window}
use Rattle.rl_window.specs.declared.window.WinSeat.{WinSeat}
use Rattle.rl_window.specs.Rule.{sized, MayBeAt, Keeps}
use Rattle.rl_window.specs.Plays.{IsRankAt, last_of, steps_of, with_ended}

module _ {C V : Type 0} where
  -- the view after the seat's last table step, which is the one that the window's rule speaks of
  abbrev pub last_view : WinSeat C V → V
  last_view s = last_of s.view s.seat.me.0

  -- how many table steps the seat has made
  abbrev pub table_steps : WinSeat C V → ℕ
  table_steps s = steps_of s.seat.me.0

  -- the seat with another view
  abbrev pub with_view : WinSeat C V → V → WinSeat C V
  with_view s v = record s { view = v }

  -- a seat of the table is this window's, and that of this rank, whose view is v
  abbrev pub IsSeatAt : Window C V → ℕ → V → Seat ℕ (Knows C V) → Type 0
  IsSeatAt w rank v seat = (seat.table_id ≡ w.table.shared.table_id) × IsRankAt w.core w.size w.nodes rank v seat.me

  -- the rank of a seat has made this atom, at a port that tells no words
  abbrev pub SeatPerforms : CoreTable V → (TheWindow → List V → Type 0) → WinSeat C V → WinSeat C V → Atom → List Event → Stepped → Type 0
  SeatPerforms table rule s t at events answer = Performs table rule s.rank at s.view t.view None None events answer

  module _ (rule : C → TheWindow → List V → Type 0) (w : Window C V) (s : WinSeat C V) where
    -- the seat is this window's and its rank's, and some state under the rule has its last view
    pub record IsSeatOf : Type 0 where
      pub table : s.seat.table_id ≡ w.table.shared.table_id
      pub at : IsRankAt w.core w.size w.nodes s.rank s.view s.seat.me
      pub may_be : MayBeAt (sized (rule w.core) w.size w.nodes) s.rank (last_view s)

    -- the view is the one after the last table step, changed at most in a way that keeps the rule
    abbrev pub IsKept : Type 0
    IsKept = Keeps (rule w.core) s.rank (last_view s) s.view

  -- a seat's view, as it is, and its rank
  abbrev pub view_of : WinSeat C V → V
  view_of s = s.view

  abbrev pub seat_rank : WinSeat C V → ℕ
  seat_rank s = s.rank

  -- the core of a window
  abbrev pub core_of : Window C V → C
  core_of w = w.core

  -- what the root seat knows once so many seats are split off, and none has ended
  abbrev pub all_given : Window C V → ℕ → RootKnows C V
  all_given w n = record { core = w.core; size = w.size; nodes = w.nodes; given = n; to_come = []; ended = [] }

  -- the window has seats of so many ranks, which are all, and none has ended
  abbrev pub HasSeats : Window C V → ℕ → Type 0
  HasSeats w n = (w.root.seat.table_id ≡ w.table.shared.table_id) × (w.root.seat.me ≡ (Root (all_given w n), []))

  -- these are the window's seats, all of them, in the order of their ranks
  pub record IsAll (rule : C → TheWindow → List V → Type 0) (w : Window C V) (seats : List (WinSeat C V)) : Type 0 where
    pub table : w.root.seat.table_id ≡ w.table.shared.table_id
    pub root : w.root.seat.me ≡ (Root (all_given w (length seats)), [])
    pub each : (i : ℕ) (s : WinSeat C V) → slice_get seats i ≡ Some s → (s.rank ≡ i) × IsSeatOf rule w s

  -- no seat has made a table step
  abbrev pub AreNew : List (WinSeat C V) → Type 0
  AreNew seats = (i : ℕ) (s : WinSeat C V) → slice_get seats i ≡ Some s → (last_view s ≡ s.view) × (table_steps s ≡ 0)

  -- each seat's view is the one after its last table step, changed at most in a way that keeps the rule
  abbrev pub AreKept : (C → TheWindow → List V → Type 0) → Window C V → List (WinSeat C V) → Type 0
  AreKept rule w seats = (i : ℕ) (s : WinSeat C V) → slice_get seats i ≡ Some s → IsKept rule w s

  -- a window that is being opened: these seats are split off and new, and the other views are to come
  pub record IsOpening (key : Setup C V) (table : TableId) (root : Seat ℕ (Knows C V)) (left : List V) (seats : List (WinSeat C V)) : Type 0 where
    pub table_is : root.table_id ≡ table
    pub root_is : root.me ≡ (Root (record { core = key.core; size = key.size; nodes = key.nodes; given = length seats; to_come = left; ended = [] }), [])
    pub each : (i : ℕ) (s : WinSeat C V) → slice_get seats i ≡ Some s
        → (s.rank ≡ i) × (s.seat.table_id ≡ table) × (s.seat.me ≡ (Rank (record { core = key.core; size = key.size; nodes = key.nodes; rank = i; view = s.view; steps = 0 }), []))
    pub all : map view_of seats ++ left ≡ key.views.items

  -- a window that is being closed: these seats are left, and the others have ended with these views
  pub record IsClosing (rule : C → TheWindow → List V → Type 0) (key : Setup C V) (table : TableId) (root : Seat ℕ (Knows C V)) (left : List (WinSeat C V)) (views : List V) : Type 0 where
    pub table_is : root.table_id ≡ table
    pub root_is : root.me ≡ (Root (record { core = key.core; size = key.size; nodes = key.nodes; given = length views + length left; to_come = []; ended = views }), [])
    pub each : (i : ℕ) (s : WinSeat C V) → slice_get left i ≡ Some s
        → (s.seat.table_id ≡ table) × ((r : RankKnows C V) × (s.seat.me ≡ (Rank r, [])) × (r.rank ≡ length views + i) × (r.core ≡ key.core) × Keeps (rule r.core) r.rank r.view s.view)

  -- the root seat is what it was, but that it knows of one seat more that has ended, with this view
  abbrev pub HasJoined : Seat ℕ (Knows C V) → Seat ℕ (Knows C V) → V → Type 0
  HasJoined old new v = (new.table_id ≡ old.table_id) × (new.id ≡ old.id) × (new.me ≡ (with_ended (Some v) old.me.0, []))

  -- where a window was being opened and this was the first view to come, its seat is split off now
  abbrev pub OpensFirst : Setup C V → TableId → Seat ℕ (Knows C V) → Seat ℕ (Knows C V) → V → List (WinSeat C V) → List (WinSeat C V) → Type 0
  OpensFirst key table old new v seats more = (rest : List V) → IsOpening key table old (v ∷ rest) seats → IsOpening key table new rest more

  module _ (rule : C → TheWindow → List V → Type 0) (key : Setup C V) (table : TableId) where
    -- a window is being closed, and this is the first of the seats that are left
    abbrev pub IsFirstLeft : Seat ℕ (Knows C V) → WinSeat C V → List V → Type 0
    IsFirstLeft root seat views = (rest : List (WinSeat C V)) × IsClosing rule key table root (seat ∷ rest) views

    -- where it was, it has ended now
    abbrev pub ClosesFirst : Seat ℕ (Knows C V) → Seat ℕ (Knows C V) → WinSeat C V → List V → List V → Type 0
    ClosesFirst old new seat views more = (rest : List (WinSeat C V)) → IsClosing rule key table old (seat ∷ rest) views → IsClosing rule key table new rest more
