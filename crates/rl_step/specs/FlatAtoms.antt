-- What a port of a flat machine keeps, and what the next atom of a rank changes of the machine.
use Rattle.std.specs.Prelude.{◌≡◌, ◌≢◌, ℕ, List, [], slice_get, slice_set, Some, None}
use Rattle.std.specs.Borrow.{MutBor}
use Rattle.rl_word.specs.declared.acts.Atom.{Atom}
use Rattle.rl_step.specs.Do.{do_atom, do_got}
use Rattle.rl_step.specs.Core.{CoreTable, Answers}
use Rattle.rl_step.specs.declared.events.Event.{Event}
use Rattle.rl_step.specs.declared.events.Stepped.{Stepped}
use Rattle.rl_step.specs.declared.events.Stepped.TheVariants.{Finished}
use Rattle.rl_step.specs.declared.flat.Flat.{Flat}

module _ {C V : Type 0} where
  -- a port of a rank has the same reference to the machine, the rank stays, and so do the views of the other ranks
  abbrev pub IsSameFlatPort : MutBor (Flat C V) → ℕ → MutBor (Flat C V) → ℕ → Type 0
  IsSameFlatPort f rank f' rank' =
      (f'.ghost_name ≡ f.ghost_name) × (rank' ≡ rank) × ((w : V) → slice_get f'.now.views.items rank' ≡ Some w → f'.now.views.items ≡
      slice_set f.now.views.items rank w)

  module _ (table : CoreTable V) (old : Flat C V) (rank : ℕ) where
    -- it is so of the rank's view and of its next atom, if it has one
    abbrev pub OfNext : (V → Atom → Type 0) → Type 0
    OfNext P = (v : V) (at : Atom) → slice_get old.views.items rank ≡ Some v → table.next v ≡ Some at → P v at

    -- it has none: then nothing has changed
    abbrev pub FlatFinishes : Flat C V → List Event → Stepped → Type 0
    FlatFinishes new events answer = (v : V) → slice_get old.views.items rank ≡ Some v → table.next v ≡ None → (answer ≡ Finished) × (events ≡ []) × (new ≡ old)

    -- it has one: then the answer is another
    abbrev pub FlatGoesOn : Stepped → Type 0
    FlatGoesOn answer = OfNext (λ v at. answer ≢ Finished)

    -- and the window is as the atom leaves it
    abbrev pub FlatWords : Flat C V → Type 0
    FlatWords new = OfNext (λ v at. new.words ≡ do_atom rank at old.words)

    -- the rank's view is as the atom leaves it, and the other views stay
    abbrev pub FlatViews : Flat C V → Type 0
    FlatViews new = OfNext (λ v at. new.views.items ≡ slice_set old.views.items rank (table.after v (do_got at old.words.words old.words.cards)).view)

    -- answer and events are the table's
    abbrev pub FlatAnswers : List Event → Stepped → Type 0
    FlatAnswers events answer = OfNext (λ v at. Answers table v (do_got at old.words.words old.words.cards) events answer)
