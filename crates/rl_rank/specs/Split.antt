-- How an act is split into atoms, what each atom leaves of its rank's side, and the lock's part of the rule.
use Rattle.std.specs.Prelude.{◌≡◌, ℕ, ◌+◌, ◌-◌, ◌<◌, ◌^◌, ◌==◌, Bool, true, false, not, List, [], ◌∷◌, ◌++◌, length, map, if◌then◌else◌, slice_get, slice_index, slice_set, Option, Some, None}
use Rattle.rl_word.specs.declared.classes.Mode.{Mode}
use Rattle.rl_word.specs.declared.acts.Act.{Act}
use Rattle.rl_word.specs.declared.acts.Act.TheVariants as act
use Rattle.rl_word.specs.declared.acts.Atom.{Atom}
use Rattle.rl_word.specs.declared.acts.Atom.TheVariants as atom
use Rattle.rl_word.specs.Acts.{word_of, written, told, by_card, Layout}
use Rattle.rl_step.specs.declared.events.Event.{Event}
use Rattle.rl_step.specs.declared.events.Event.TheVariants.{LeaveW, LeaveR}
use Rattle.rl_step.specs.declared.events.Standing.{Standing}
use Rattle.rl_step.specs.declared.events.Standing.TheVariants as standing
use Rattle.rl_step.specs.declared.events.Stepped.{Stepped}
use Rattle.rl_step.specs.declared.events.Stepped.TheVariants.{Moved, Waiting, Lost, Busy}
use Rattle.rl_step.specs.Lock.{LockTable, LockState, Deed}
use Rattle.rl_step.specs.Do.{do_words, do_cards, do_got}
use Rattle.rl_core.specs.Domains.{UsesCards}
use Rattle.rl_rank.specs.declared.card_state.CardState.{CardState}
use Rattle.rl_rank.specs.declared.card_state.CardState.TheVariants.{Free, InCard, Loaded, ToLeave}
use Rattle.rl_rank.specs.declared.side.Side.{Side}
use Rattle.rl_rank.specs.declared.effect.Effect.{Effect}
use Rattle.rl_rank.specs.declared.effect.Effect.TheVariants.{Work, Stay, Learn}

-- all events and all acts so far
pub record Past : Type 0 where
  pub trace : List Event
  pub deeds : List Deed

-- the past after further events and acts
abbrev pub grown : Past → List Event → List Deed → Past
grown p es ds = record { trace = p.trace ++ es; deeds = p.deeds ++ ds }

-- the act that was learnt, as one of all acts; none where no act was planned
abbrev pub deed_of : ℕ → Option Act → ℕ → List Event → List Deed
deed_of r None got es = []
deed_of r (Some a) got es = record { rank = r; act = a; got = got; events = es } ∷ []

-- what an atom leaves: the rank's side, the events and the act that came with it, and the answer
pub record SideTurned (V : Type 0) : Type 0 where
  pub side : Side V
  pub events : List Event
  pub deeds : List Deed
  pub stepped : Stepped

-- the home of a lock word
abbrev pub home_of : {V : Type 0} → LockTable V → ℕ → ℕ
home_of T w = (T.spot w).home

-- the first atom of an act whose word has this home: a card act begins with the Take, any other is one atom
abbrev pub first_at : ℕ → Act → Atom
first_at home (act.Load w) = atom.Load w
first_at home (act.Store w v) = atom.Store w v
first_at home (act.LocalCas w old new) = atom.LocalCas w old new
first_at home a = atom.Take home

-- the next atom, for a planned act whose word has this home: Take, CardLoad, CardStore, Leave in turn
abbrev pub atom_at : ℕ → Option Act → CardState → Option Atom
atom_at home p (ToLeave n) = Some (atom.Leave n)
atom_at home None c = None
atom_at home (Some a) Free = Some (first_at home a)
atom_at home (Some a) InCard = Some (atom.CardLoad (word_of a))
atom_at home (Some a) (Loaded g) = Some (atom.CardStore (word_of a) (written a g))

-- the word of a planned act
abbrev pub plan_word : Option Act → Option ℕ
plan_word None = None
plan_word (Some a) = Some (word_of a)

-- the planned act, where a card state asks for it: one that is about to leave its card asks for none
abbrev pub asked_act : Option Act → CardState → Option Act
asked_act p Free = p
asked_act p InCard = p
asked_act p (Loaded g) = p
asked_act p (ToLeave n) = None

-- the word whose home is asked for, by the planned act and the card state: none where the act isn't made through a card
abbrev pub card_word : Option Act → CardState → Option ℕ
card_word None c = None
card_word (Some a) Free = if by_card a then Some (word_of a) else None
card_word (Some a) InCard = Some (word_of a)
card_word (Some a) (Loaded g) = Some (word_of a)
card_word (Some a) (ToLeave n) = Some (word_of a)

-- the home of a word, if there is one
abbrev pub word_home : {V : Type 0} → LockTable V → Option ℕ → ℕ
word_home T None = 0
word_home T (Some w) = home_of T w

-- the home of a planned act's word
abbrev pub plan_home : {V : Type 0} → LockTable V → Option Act → ℕ
plan_home T p = word_home T (plan_word p)

-- the first atom of an act of this lock
abbrev pub first_atom : {V : Type 0} → LockTable V → Act → Atom
first_atom T a = first_at (home_of T (word_of a)) a

-- the next atom of this lock, for a planned act and a card state
abbrev pub card_atom : {V : Type 0} → LockTable V → Option Act → CardState → Option Atom
card_atom T p c = atom_at (plan_home T p) p c

-- the next atom of this lock, for a rank's side
abbrev pub side_atom : {V : Type 0} → LockTable V → Side V → Option Atom
side_atom T x = card_atom T (T.plan x.view) x.card

-- the act stores nothing where its load gives got: a compare-and-swap that found another value than its guess
abbrev pub skips : Act → ℕ → Bool
skips (act.LocalCas w old new) got = not (got == old)
skips (act.CardCas w old new) got = not (got == old)
skips a got = false

-- the value that a compare-and-swap hopes to find
abbrev pub guess_of : Act → ℕ
guess_of (act.LocalCas w old new) = old
guess_of (act.CardCas w old new) = old
guess_of a = 0

-- what an atom that gave got means, for a planned act whose word has this home. A Take that finds the card held changes nothing;
-- an act is learnt at its CardStore, at a CardLoad whose compare is lost, or at its one atom
abbrev pub effect_at : ℕ → Option Act → CardState → ℕ → Effect
effect_at home p (ToLeave n) got = Stay Free Moved
effect_at home None c got = Work
effect_at home (Some a) Free got =
    if by_card a
    then (if got == 0 then Stay InCard Moved else Stay Free (Busy home (got - 1)))
    else Learn Free got (skips a got)
effect_at home (Some a) InCard got = if skips a got then Learn (ToLeave home) got true else Stay (Loaded got) Moved
effect_at home (Some a) (Loaded g) got = Learn (ToLeave home) (told a g) false

-- the answer of a learnt act: a lost compare comes before a test that isn't met. The word is numbered as the lock numbers it
abbrev pub answer_of : Option Act → ℕ → Bool → Bool → Stepped
answer_of None got lost waits = Moved
answer_of (Some a) got lost waits = if lost then Lost (guess_of a) got else if waits then Waiting (word_of a) got else Moved

-- the event of a holder that ends its call's work, by how it stood
abbrev pub departure : ℕ → Standing → List Event
departure rank standing.Writer = LeaveW rank ∷ []
departure rank standing.Reader = LeaveR rank ∷ []
departure rank st = []

-- what an effect leaves of the side of rank, which has this lock view and this planned act. The work's atoms are none of the lock's: what
-- they leave of its side is for the whole machine to say (`work_turned`)
abbrev pub turned_side : {V : Type 0} → LockTable V → ℕ → V → Option Act → Effect → SideTurned V
turned_side T rank v p Work = record { side = record { view = v; card = Free }; events = []; deeds = []; stepped = Moved }
turned_side T rank v p (Stay c answer) = record { side = record { view = v; card = c }; events = []; deeds = []; stepped = answer }
turned_side T rank v p (Learn c got lost) =
    record {
      side = record { view = (T.learn v got).view; card = c };
      events = (T.learn v got).events;
      deeds = deed_of rank p got (T.learn v got).events;
      stepped = answer_of p got lost (T.learn v got).waits;
    }

-- what an atom that gave got leaves, for a planned act and a card state
abbrev pub card_after : {V : Type 0} → LockTable V → ℕ → V → Option Act → CardState → ℕ → SideTurned V
card_after T rank v p c got = turned_side T rank v p (effect_at (plan_home T p) p c got)

-- what an atom that gave got leaves of a rank's side
abbrev pub side_after : {V : Type 0} → LockTable V → ℕ → Side V → ℕ → SideTurned V
side_after T rank x got = card_after T rank x.view (T.plan x.view) x.card got

-- the lock words, the cards, the ranks' sides, the modes of their last asks, and all events and acts so far
pub record SplitState (V : Type 0) : Type 0 where
  pub words : List ℕ
  pub cards : List ℕ
  pub sides : List (Side V)
  pub modes : List Mode
  pub past : Past

-- the lock view of a side
abbrev pub view_of : {V : Type 0} → Side V → V
view_of x = x.view

-- the state that the lock's own laws speak of, which knows no card
abbrev pub lock_of : {V : Type 0} → SplitState V → LockState V
lock_of s = record { words = s.words; views = map view_of s.sides; modes = s.modes; trace = s.past.trace; deeds = s.past.deeds }

-- rank r, whose side is x, makes the atom at
abbrev pub moved : {V : Type 0} → LockTable V → SplitState V → ℕ → Side V → Atom → SplitState V
moved T s r x at =
    record {
      words = do_words at s.words;
      cards = do_cards r at s.cards;
      sides = slice_set s.sides r (side_after T r x (do_got at s.words s.cards)).side;
      modes = s.modes;
      past = grown s.past (side_after T r x (do_got at s.words s.cards)).events (side_after T r x (do_got at s.words s.cards)).deeds;
    }

-- the card that a rank is in, by its planned act and its card state
abbrev pub card_in : {V : Type 0} → LockTable V → Option Act → CardState → Option ℕ
card_in T p Free = None
card_in T p (ToLeave n) = Some n
card_in T None c = None
card_in T (Some a) c = Some (home_of T (word_of a))

-- the card that a rank with this side is in
abbrev pub card_of : {V : Type 0} → LockTable V → Side V → Option ℕ
card_of T x = card_in T (T.plan x.view) x.card

-- a word loaded in a card stands still: a rank in a card makes a card act, and what it loaded is still in the word
abbrev pub StandsStill : List ℕ → Option Act → CardState → Type 0
StandsStill ws p Free = Unit {0}
StandsStill ws p (ToLeave n) = Unit {0}
StandsStill ws None InCard = ⊥
StandsStill ws None (Loaded g) = ⊥
StandsStill ws (Some a) InCard = by_card a ≡ true
StandsStill ws (Some a) (Loaded g) = (by_card a ≡ true) × (skips a g ≡ false) × (slice_index ws (word_of a) ≡ g)

-- the lock's part of the rule: the lock's own invariant, the cards that name who is in them, and the loaded words that stand still
pub record LockGood {V : Type 0} (T : LockTable V) (good : LockState V → Type 0) (layout : Layout) (s : SplitState V) : Type 0 where
  pub lock : good (lock_of s)
  pub all_cards : length s.cards ≡ layout.nodes
  -- a rank's number is in the card that it is in
  pub names : (r n : ℕ) (x : Side V) → slice_get s.sides r ≡ Some x → card_of T x ≡ Some n → slice_index s.cards n ≡ r + 1
  -- a number in a card is that of a rank that is in it
  pub named : (r n : ℕ) → slice_index s.cards n ≡ r + 1 → (x : Side V) × (slice_get s.sides r ≡ Some x) × (card_of T x ≡ Some n)
  -- what a rank has loaded in a card is still there
  pub still : (r : ℕ) (x : Side V) → slice_get s.sides r ≡ Some x → StandsStill s.words (T.plan x.view) x.card
  -- who is in a card is a rank that may make acts through cards
  pub domain : (r n : ℕ) (x : Side V) → slice_get s.sides r ≡ Some x → card_of T x ≡ Some n → UsesCards T.may_make r

-- t follows s where rank r, with this view, planned act and card state, makes the atom at
pub record Leads {V : Type 0} (T : LockTable V) (s t : SplitState V) (r : ℕ) (v : V) (p : Option Act) (c : CardState) (at : Atom) : Type 0 where
  pub words : t.words ≡ do_words at s.words
  pub cards : t.cards ≡ do_cards r at s.cards
  pub sides : t.sides ≡ slice_set s.sides r (card_after T r v p c (do_got at s.words s.cards)).side
  pub modes : t.modes ≡ s.modes
  pub past : t.past ≡ grown s.past (card_after T r v p c (do_got at s.words s.cards)).events (card_after T r v p c (do_got at s.words s.cards)).deeds

-- what a Take gives is 0 or one more than a rank's number
abbrev pub HolderFits : Option Act → CardState → ℕ → Type 0
HolderFits p (ToLeave n) got = Unit {0}
HolderFits p InCard got = Unit {0}
HolderFits p (Loaded g) got = Unit {0}
HolderFits None Free got = Unit {0}
HolderFits (Some a) Free got = by_card a ≡ true → got < 2 ^ 32 + 1
