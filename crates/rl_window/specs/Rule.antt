-- The rule of the table: the core's rule over the words, the cards and one view for each rank, and which seat knows which view.
use Rattle.std.specs.Prelude.{◌≡◌, ℕ, ◌+◌, ◌*◌, ◌^◌, ◌<◌, ◌≤◌, List, [], ◌∷◌, ◌++◌, length, take, drop, slice_get, slice_set, Some}
use mathlib.Core.Option.{some}
use lib.ListN.{get_elem?}
use Rattle.atomic_table.specs.Seated.{TableId}
use Rattle.atomic_table.specs.Table.{State}
use Rattle.rl_step.specs.Do.{TheWindow}
use Rattle.rl_step.specs.Core.{CoreTable, MayBe, MayGet}
use Rattle.rl_window.specs.declared.knows.Setup.{Setup}
use Rattle.rl_window.specs.declared.knows.Knows.{Knows}
use Rattle.rl_window.specs.declared.knows.Knows.TheVariants.{Root, Rank, Spent}

-- How cards lie in the table: each is the last of eight words, and the seven before it are 0 and unused. So from a card to the next, and from
-- the window's last word to the first card, it is as far as a line of a processor's cache is long.
abbrev pub apart : List ℕ → List ℕ
apart [] = []
apart (c ∷ cs) = 0 ∷ 0 ∷ 0 ∷ 0 ∷ 0 ∷ 0 ∷ 0 ∷ c ∷ apart cs

-- a table has room for so many words and for the lines of so many cards, and no slots
abbrev pub HasRoomFor : TableId → ℕ → ℕ → Type 0
HasRoomFor table size nodes = (table.words ≡ size + 8 * nodes) × (size + 8 * nodes < 2 ^ 63) × (0 < size) × (table.slots ≡ 0)

module _ {V : Type 0} where
  -- the core's rule, with so many words and cards
  abbrev pub sized : (TheWindow → List V → Type 0) → ℕ → ℕ → TheWindow → List V → Type 0
  sized rule size nodes h vs = rule h vs × (length h.words ≡ size) × (length h.cards ≡ nodes)

module _ {C V : Type 0} where
  -- what the root seat knows at first: all views are to come
  abbrev pub opening_root : Setup C V → Knows C V
  opening_root k = Root (record { core = k.core; size = k.size; nodes = k.nodes; given = 0; to_come = k.views.items; ended = [] })

  -- What the table's seat with the number id knows, where the seats of so many ranks were split off, and of so many joined again.
  -- The root seat has number 0, the views of the ranks whose seats are to come, and those of the ranks whose seats have ended. The
  -- seat of rank n has number n + 1, and its rank's view.
  module _ (core : C) (size nodes : ℕ) (views : List V) (given joined id : ℕ) where
    abbrev pub Fits : Knows C V → Type 0
    Fits (Root r) = (id ≡ 0) × (r.core ≡ core) × (r.size ≡ size) × (r.nodes ≡ nodes) × (r.given ≡ given) × (r.to_come ≡ drop given views) × (r.ended ≡ take joined views)
    Fits (Rank r) = (id ≡ r.rank + 1) × (r.core ≡ core) × (r.size ≡ size) × (r.nodes ≡ nodes) × (joined ≤ r.rank) × (r.rank < given) × (slice_get views r.rank ≡ Some r.view)
    Fits Spent = Unit {0}

  -- The table's words are words and cards of some window, the cards apart, and there is one view for each rank, with which they meet the
  -- core's rule; each seat knows the part of the views that is its own.
  pub record IsRuled (rule : C → TheWindow → List V → Type 0) (key : Setup C V) (s : State ℕ (Knows C V)) : Type 0 where
    pub held : TheWindow
    pub views : List V
    -- so many seats were split off, and of these so many joined again
    pub given : ℕ
    pub joined : ℕ
    pub laid : s.words ≡ held.words ++ apart held.cards
    pub kept : sized (rule key.core) key.size key.nodes held views
    pub seats : length s.views ≡ given + 1
    pub enough : given ≤ length views
    pub order : joined ≤ given
    pub each : (id : ℕ) (k : Knows C V) → get_elem? s.views id ≡ some k → Fits key.core key.size key.nodes views given joined id k

module _ {V : Type 0} where
  -- some state under the rule has this view at this rank
  abbrev pub MayBeAt : (TheWindow → List V → Type 0) → ℕ → V → Type 0
  MayBeAt rule r v = (m : MayBe rule v) × (m.rank ≡ r)

  -- some state under the rule has this view at this rank, and gives got for its next atom
  abbrev pub MayGetAt : CoreTable V → (TheWindow → List V → Type 0) → ℕ → V → ℕ → Type 0
  MayGetAt T rule r v got = (m : MayGet T rule v got) × (m.rank ≡ r)

  -- whatever the words, the cards and the other views, the rule stays when the view of the rank goes from v to w
  abbrev pub Keeps : (TheWindow → List V → Type 0) → ℕ → V → V → Type 0
  Keeps rule r v w = (h : TheWindow) (vs : List V) → rule h vs → slice_get vs r ≡ Some v → rule h (slice_set vs r w)
