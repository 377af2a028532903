-- A round of two loads: while their words are as they were, a rank in it goes from one to the other, and changes nothing but the part of
-- its view that they change.
use Rattle.std.specs.Prelude.{◌≡◌, ℕ, ◌<◌, Bool, true, false, [], slice_index, Option, Some, None}
use Rattle.rl_word.specs.declared.acts.Atom.{Atom}
use Rattle.rl_step.specs.declared.events.Stepped.{Stepped}
use Rattle.rl_step.specs.declared.events.Stepped.TheVariants.{Moved, Waiting}
use Rattle.rl_step.specs.Do.{TheWindow, do_atom, do_got}
use Rattle.rl_core.specs.declared.round.Leg.{Leg}
use Rattle.rl_core.specs.declared.round.Round.{Round}
use Rattle.rl_core.specs.ShardTables.{ShardTable}

-- a load is answered Waiting, of this word and value, or Moved
abbrev pub load_answer : ℕ → ℕ → Bool → Stepped
load_answer word value true = Waiting word value
load_answer word value false = Moved

abbrev pub leg_answer : {S : Type 0} → Leg S → Stepped
leg_answer leg = load_answer leg.word leg.value leg.waits

-- the round, begun with its other load
abbrev pub turned_round : {S : Type 0} → Round S → Round S
turned_round round = record { here = round.there; there = round.here }

-- rank k's atom, of the view x, leaves words and cards as they are; it changes the view as the leg says, is answered so, and nothing
-- happens with it
abbrev pub Makes : {V S : Type 0} → ShardTable V → (V → S → V) → TheWindow → ℕ → V → Leg S → Option Atom → Type 0
Makes T seeing h k x leg None = ⊥
Makes T seeing h k x leg (Some at) =
    (do_atom k at h ≡ h) × ((T.core.after x (do_got at h.words h.cards)).view ≡ seeing x leg.sight) ×
    ((T.core.after x (do_got at h.words h.cards)).events ≡ []) ×
    ((T.core.after x (do_got at h.words h.cards)).stepped ≡ leg_answer leg)

-- it is so whatever the window is, while the leg's word has its value
abbrev pub GoesBy : {V S : Type 0} → ShardTable V → (V → S → V) → ℕ → V → Leg S → Type 0
GoesBy T seeing k x leg = (h : TheWindow) → slice_index h.words leg.word ≡ leg.value → Makes T seeing h k x leg (T.core.next x)

-- rank k, with the view x, is in this round, in a window of so many words: its next load leads it to the view of the other, which leads
-- it back; and it is in a call at both
pub record IsRound {V S : Type 0} (T : ShardTable V) (seeing : V → S → V) (words k : ℕ) (x : V) (round : Round S) : Type 0 where
  pub back : seeing (seeing x round.here.sight) round.there.sight ≡ x
  pub in_call : (T.own x).is_open ≡ true
  pub in_call_there : (T.own (seeing x round.here.sight)).is_open ≡ true
  pub word_here : round.here.word < words
  pub word_there : round.there.word < words
  pub first : GoesBy T seeing k x round.here
  pub second : GoesBy T seeing k (seeing x round.here.sight) round.there

-- of every rank with this view it is a round
abbrev pub IsRoundOfAll : {V S : Type 0} → ShardTable V → (V → S → V) → ℕ → V → Round S → Type 0
IsRoundOfAll T seeing size x round = (k : ℕ) → IsRound T seeing size k x round
