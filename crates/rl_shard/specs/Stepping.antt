-- One atom through a seat of a window, for any core.
use Rattle.std.specs.Prelude.{◌≡◌, ◌≢◌, ◌+◌, List, [], Option, Some, None}
use Rattle.rl_word.specs.declared.acts.Atom.{Atom}
use Rattle.rl_step.specs.declared.events.Event.{Event}
use Rattle.rl_step.specs.declared.events.Stepped.{Stepped}
use Rattle.rl_step.specs.declared.events.Stepped.TheVariants.{Finished}
use Rattle.rl_step.specs.Do.{TheWindow}
use Rattle.rl_step.specs.Core.{CoreTable, Performs}
use Rattle.rl_window.specs.declared.window.Window.{Window}
use Rattle.rl_window.specs.declared.window.WinSeat.{WinSeat}
use Rattle.rl_window.specs.Seats.{core_of, view_of, seat_rank, table_steps}

module _ {C V : Type 0} (table : C → CoreTable V) where
  -- the next atom of the seat's rank
  abbrev pub seat_next : Window C V → WinSeat C V → Option Atom
  seat_next w s = (table (core_of w)).next (view_of s)

  module _ (w : Window C V) (s t : WinSeat C V) (events : List Event) (answer : Stepped) where
    -- it has none: then nothing has changed
    abbrev pub MakesNone : Type 0
    MakesNone = seat_next w s ≡ None → (answer ≡ Finished) × (events ≡ []) × (t ≡ s)

    -- the seat has made this atom in one table step, with these events and this answer
    pub record MakesAtom (rule : C → TheWindow → List V → Type 0) (at : Atom) : Type 0 where
      pub goes_on : answer ≢ Finished
      pub one_step : table_steps t ≡ table_steps s + 1
      pub performs : Performs (table (core_of w)) (rule (core_of w)) (seat_rank s) at (view_of s) (view_of t) None None events answer

    -- its next one, if it has one
    abbrev pub MakesNext : (C → TheWindow → List V → Type 0) → Type 0
    MakesNext rule = (at : Atom) → seat_next w s ≡ Some at → MakesAtom rule at
