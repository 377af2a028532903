-- The core that the tests use: a rank's view is the atom that it makes next, and a round makes each of the seven kinds once.
use Rattle.std.specs.Prelude.{◌≡◌, ℕ, ◌+◌, ◌%◌, ◌^◌, ◌==◌, List, [], length, if◌then◌else◌, slice_get, Option, Some, None}
use Rattle.rl_word.specs.declared.acts.Atom.{Atom}
use Rattle.rl_word.specs.declared.acts.Atom.TheVariants.{Load, Store, LocalCas, Take, CardLoad, CardStore, Leave}
use Rattle.rl_step.specs.declared.events.Stepped.TheVariants.{Moved, Lost}
use Rattle.rl_step.specs.Do.{TheWindow, CanDo}
use Rattle.rl_step.specs.Core.{Turned, CoreTable}
use Rattle.rl_window.specs.declared.window.Window.{Window}
use Rattle.rl_window.specs.declared.window.WinSeat.{WinSeat}
use Rattle.rl_window.specs.Seats.{IsSeatOf, IsKept}

abbrev pub moved_to : Option Atom → Turned (Option Atom)
moved_to next = record { view = next; events = []; stepped = Moved }

abbrev pub lost_to : Atom → ℕ → ℕ → Turned (Option Atom)
lost_to next guess seen = record { view = Some next; events = []; stepped = Lost guess seen }

-- a round adds one to word 0 through the card of node 0, adds one to word 1 by a compare-and-swap, and stores that into word 2
abbrev pub turned : Atom → ℕ → Turned (Option Atom)
turned (Take n) got = if got == 0 then moved_to (Some (CardLoad 0)) else lost_to (Take n) 0 got
turned (CardLoad w) got = moved_to (Some (CardStore w ((got + 1) % 2 ^ 64)))
turned (CardStore w v) got = moved_to (Some (Leave 0))
turned (Leave n) got = moved_to (Some (Load 1))
turned (Load w) got = moved_to (Some (LocalCas w got ((got + 1) % 2 ^ 64)))
turned (LocalCas w old new) got = if got == old then moved_to (Some (Store 2 new)) else lost_to (LocalCas w got ((got + 1) % 2 ^ 64)) old got
turned (Store w v) got = moved_to None

-- between two rounds a rank has no atom
abbrev pub after_found : Option Atom → ℕ → Turned (Option Atom)
after_found None got = moved_to None
after_found (Some at) got = turned at got

abbrev pub rounds_table : CoreTable (Option Atom)
rounds_table = record { next = λ v. v; after = after_found; size = 3; home = λ w. 0 }

-- the rank can make its next atom, if it has one
abbrev pub CanGoOn : ℕ → Option Atom → List ℕ → List ℕ → Type 0
CanGoOn r None ws cs = Unit {0}
CanGoOn r (Some at) ws cs = CanDo 0 r at ws cs

-- three words and a card, and each rank can make its next atom
pub record GoOn (h : TheWindow) (vs : List (Option Atom)) : Type 0 where
  pub words : length h.words ≡ 3
  pub cards : length h.cards ≡ 1
  pub each : (r : ℕ) (v : Option Atom) → slice_get vs r ≡ Some v → CanGoOn r v h.words h.cards

abbrev pub rounds_rule : {C : Type 0} → C → TheWindow → List (Option Atom) → Type 0
rounds_rule c h vs = GoOn h vs

-- what was one seat of the window is still one, of the same rank
abbrev pub StaysSeated : {C : Type 0} → Window C (Option Atom) → WinSeat C (Option Atom) → WinSeat C (Option Atom) → Type 0
StaysSeated w old new = IsSeatOf rounds_rule w new × IsKept rounds_rule w new × (new.rank ≡ old.rank)
