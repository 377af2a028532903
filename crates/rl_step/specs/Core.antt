-- What a core is, a rank's whole machine: its table of plain functions, its rule and its laws; and what an atom changes.
use Rattle.std.specs.Prelude.{◌≡◌, ℕ, ◌<◌, ◌^◌, List, [], length, slice_get, slice_set, Option, Some, None}
use Rattle.rl_word.specs.declared.acts.Atom.{Atom}
use Rattle.rl_word.specs.declared.acts.Atom.TheVariants.{Load, Store, LocalCas, Take, CardLoad, CardStore, Leave}
use Rattle.rl_step.specs.declared.events.Event.{Event}
use Rattle.rl_step.specs.declared.events.Stepped.{Stepped}
use Rattle.rl_step.specs.declared.events.Stepped.TheVariants.{Finished}
use Rattle.rl_step.specs.Do.{TheWindow, do_atom, do_got, CanDo}

-- what an atom leaves: the rank's view, what happened with the atom, and its answer
pub record Turned (V : Type 0) : Type 0 where
  pub view : V
  pub events : List Event
  pub stepped : Stepped

abbrev pub turned_with : {V : Type 0} → V → List Event → Stepped → Turned V
turned_with view events stepped = record { view = view; events = events; stepped = stepped }

-- the atom that is handed on with something
abbrev pub atom_in : {P : Type 0} → Option (Atom × P) → Option Atom
atom_in None = None
atom_in (Some p) = Some p.0

-- a core as plain functions: a view's next atom, what the view is after it found a number, how many words the window has, and
-- the home of each
pub record CoreTable (V : Type 0) : Type 0 where
  pub next : V → Option Atom
  pub after : V → ℕ → Turned V
  pub size : ℕ
  pub home : ℕ → ℕ

-- the word of a card load or store
abbrev pub card_word_of : Atom → Option ℕ
card_word_of (Load w) = None
card_word_of (Store w v) = None
card_word_of (LocalCas w old new) = None
card_word_of (Take n) = None
card_word_of (CardLoad w) = Some w
card_word_of (CardStore w v) = Some w
card_word_of (Leave n) = None

-- the home of a word, if there is one
abbrev pub home_for : (ℕ → ℕ) → Option ℕ → ℕ
home_for home None = 0
home_for home (Some w) = home w

-- the node whose card an atom needs; atoms that need none of them name node 0
abbrev pub home_at : (ℕ → ℕ) → Atom → ℕ
home_at home at = home_for home (card_word_of at)

-- some state that meets the rule has this view
pub record MayBe {V : Type 0} (rule : TheWindow → List V → Type 0) (v : V) : Type 0 where
  pub held : TheWindow
  pub views : List V
  pub rank : ℕ
  pub is_ruled : rule held views
  pub has : slice_get views rank ≡ Some v

-- in a state that meets the rule, rank r has the view v, whose next atom is at
pub record Plans {V : Type 0} (C : CoreTable V) (rule : TheWindow → List V → Type 0) (h : TheWindow) (vs : List V) (r : ℕ) (v : V) (at : Atom) : Type 0 where
  pub is_ruled : rule h vs
  pub has : slice_get vs r ≡ Some v
  pub planned : C.next v ≡ Some at

-- some state that meets the rule has this view and gives got for its next atom
pub record MayGet {V : Type 0} (C : CoreTable V) (rule : TheWindow → List V → Type 0) (v : V) (got : ℕ) : Type 0 where
  pub held : TheWindow
  pub views : List V
  pub rank : ℕ
  pub atom : Atom
  pub plans : Plans C rule held views rank v atom
  pub gives : got ≡ do_got atom held.words held.cards

-- The laws of a core: of its table and of its rule, which speaks of the words, the cards and the views of all ranks.
pub record CoreLaws {V : Type 0} (C : CoreTable V) (rule : TheWindow → List V → Type 0) : Type 0 where
  -- the rule knows how many words there are
  pub sized : (h : TheWindow) (vs : List V) → rule h vs → length h.words ≡ C.size
  -- each planned atom can be made
  pub can : (h : TheWindow) (vs : List V) (r : ℕ) (v : V) (at : Atom) → Plans C rule h vs r v at → CanDo (home_at C.home at) r at h.words h.cards
  -- and keeps the rule, where it finds a number of 64 bits, as words and cards always are
  pub keeps : (h : TheWindow) (vs : List V) (r : ℕ) (v : V) (at : Atom) → Plans C rule h vs r v at → do_got at h.words h.cards < 2 ^ 64 →
      rule (do_atom r at h) (slice_set vs r (C.after v (do_got at h.words h.cards)).view)
  -- no atom is answered as if none was made
  pub goes_on : (h : TheWindow) (vs : List V) (r : ℕ) (v : V) (at : Atom) → Plans C rule h vs r v at →
      (C.after v (do_got at h.words h.cards)).stepped ≡ Finished → ⊥

-- the answer of an atom that found got, and what happened with it, are the table's
pub record Answers {V : Type 0} (C : CoreTable V) (v : V) (got : ℕ) (events : List Event) (stepped : Stepped) : Type 0 where
  pub same_events : events ≡ (C.after v got).events
  pub same_answer : stepped ≡ (C.after v got).stepped

-- What the rank's atom at changes, whatever port it is made on: the view v becomes w, as it is after a number that some state
-- under the rule gives; and where the port tells its words, they change as the atom says, and the number is what it gives.
pub record Performs {V : Type 0} (C : CoreTable V) (rule : TheWindow → List V → Type 0) (rank : ℕ) (at : Atom) (v w : V)
    (told_old told_new : Option TheWindow) (events : List Event) (stepped : Stepped) : Type 0 where
  pub got : ℕ
  pub may_get : MayGet C rule v got
  pub same_rank : may_get.rank ≡ rank
  pub view : w ≡ (C.after v got).view
  pub answer : Answers C v got events stepped
  pub told : (h : TheWindow) → told_old ≡ Some h → (told_new ≡ Some (do_atom rank at h)) × (got ≡ do_got at h.words h.cards)

-- what a made atom changes of plain words and views
pub record MadeFlat {V : Type 0} (C : CoreTable V) (h k : TheWindow) (vs ws : List V) (r : ℕ) (v : V) (at : Atom) (events : List Event)
    (stepped : Stepped) : Type 0 where
  pub held : k ≡ do_atom r at h
  pub views : ws ≡ slice_set vs r (C.after v (do_got at h.words h.cards)).view
  pub answer : Answers C v (do_got at h.words h.cards) events stepped

-- The same of a port, by what it sees, its rank and what it tells, from p to q.
module _ {P V : Type 0} (C : CoreTable V) (rule : TheWindow → List V → Type 0) (sees : P → V → Type 0) (rank_of : P → ℕ)
    (told : P → Option TheWindow) (p q : P) where
  -- it has made this atom
  abbrev pub PortMakes : Atom → List Event → Stepped → Type 0
  PortMakes at events answer = (v w : V) → sees p v → sees q w → Performs C rule (rank_of p) at v w (told p) (told q) events answer

  -- it has made its view's next atom, if that has one
  abbrev pub PortMakesNext : List Event → Stepped → Type 0
  PortMakesNext events answer = (v w : V) (at : Atom) → sees p v → sees q w → C.next v ≡ Some at → Performs C rule (rank_of p) at v w
      (told p) (told q) events answer

-- its view has no next atom: then nothing has changed
abbrev pub PortFinishes : {P V : Type 0} → CoreTable V → (P → V → Type 0) → P → P → List Event → Stepped → Type 0
PortFinishes C sees p q events answer = (v : _) → sees p v → C.next v ≡ None → (answer ≡ Finished) × (events ≡ []) × (q ≡ p)
