-- What an act does to its word and tells, and which acts a rank may make.
use Rattle.std.specs.Prelude.{◌≡◌, ℕ, ◌+◌, ◌%◌, ◌^◌, ◌<◌, ◌==◌, Bool, true, false, List, if◌then◌else◌, slice_index}
use Rattle.rl_word.specs.declared.classes.Class.TheVariants as class
use Rattle.rl_word.specs.declared.classes.Spot.{Spot}
use Rattle.rl_word.specs.declared.acts.Act.{Act}
use Rattle.rl_word.specs.declared.acts.Act.TheVariants.{Load, Store, LocalCas, CardCas, CardSwap, CardAdd}

-- the word that an act is made on
abbrev pub word_of : Act → ℕ
word_of (Load w) = w
word_of (Store w v) = w
word_of (LocalCas w old new) = w
word_of (CardCas w old new) = w
word_of (CardSwap w v) = w
word_of (CardAdd w d) = w

-- what the word is after the act, where it was g before
abbrev pub written : Act → ℕ → ℕ
written (Load w) g = g
written (Store w v) g = v
written (LocalCas w old new) g = if g == old then new else g
written (CardCas w old new) g = if g == old then new else g
written (CardSwap w v) g = v
written (CardAdd w d) g = (g + d) % 2 ^ 64

-- what the act tells the rank, where the word was g before
abbrev pub told : Act → ℕ → ℕ
told (Store w v) g = 0
told _ g = g

-- the act is made through the card of its word's home
abbrev pub by_card : Act → Bool
by_card (CardCas w old new) = true
by_card (CardSwap w v) = true
by_card (CardAdd w d) = true
by_card _ = false

-- The rule of classes: anybody loads any word; stores go to plain words; local compare-and-swaps go to local words, from
-- ranks of their home; card acts go to card words. So nobody writes a fixed word.
abbrev pub IsAllowed : List ℕ → ℕ → Spot → Act → Type 0
IsAllowed node_of rank spot (Load w) = Unit {0}
IsAllowed node_of rank spot (Store w v) = spot.class ≡ class.Plain
IsAllowed node_of rank spot (LocalCas w old new) = (spot.class ≡ class.Local) × (slice_index node_of rank ≡ spot.home)
IsAllowed node_of rank spot (CardCas w old new) = spot.class ≡ class.Card
IsAllowed node_of rank spot (CardSwap w v) = spot.class ≡ class.Card
IsAllowed node_of rank spot (CardAdd w d) = spot.class ≡ class.Card

-- where ranks sit: the node of each, and how many nodes there are
pub record Layout : Type 0 where
  pub node_of : List ℕ
  pub nodes : ℕ

-- a lawful act: its word is one of the lock's, that word's home is a node, and the rule of classes allows the act
pub record IsLawful (size : ℕ) (spot_of : ℕ → Spot) (layout : Layout) (rank : ℕ) (act : Act) : Type 0 where
  pub there : word_of act < size
  pub homed : (spot_of (word_of act)).home < layout.nodes
  pub allowed : IsAllowed layout.node_of rank (spot_of (word_of act)) act
