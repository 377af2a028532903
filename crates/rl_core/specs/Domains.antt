-- Which atoms a rank may make: those of cards where it may make acts through cards, and a local compare-and-swap where it may make one.
use Rattle.std.specs.Prelude.{◌≡◌, ℕ, Bool, true}
use Rattle.rl_word.specs.Acts.{by_card}
use Rattle.rl_word.specs.declared.acts.Act.{Act}
use Rattle.rl_word.specs.declared.acts.Act.TheVariants as act
use Rattle.rl_word.specs.declared.acts.Atom.{Atom}
use Rattle.rl_word.specs.declared.acts.Atom.TheVariants as atom

-- an atom of a card
abbrev pub IsCardAtom : Atom → Type 0
IsCardAtom (atom.Take n) = Unit {0}
IsCardAtom (atom.CardLoad w) = Unit {0}
IsCardAtom (atom.CardStore w v) = Unit {0}
IsCardAtom (atom.Leave n) = Unit {0}
IsCardAtom _ = ⊥

-- a local compare-and-swap, as an atom and as an act
abbrev pub IsLocalAtom : Atom → Type 0
IsLocalAtom (atom.LocalCas w old new) = Unit {0}
IsLocalAtom _ = ⊥

abbrev pub IsLocalAct : Act → Type 0
IsLocalAct (act.LocalCas w old new) = Unit {0}
IsLocalAct _ = ⊥

-- rank r may make some act through a card, by which acts each rank may make; and some local compare-and-swap
abbrev pub UsesCards : (ℕ → Act → Bool) → ℕ → Type 0
UsesCards may r = (a : Act) × (by_card a ≡ true) × (may r a ≡ true)

abbrev pub UsesLocals : (ℕ → Act → Bool) → ℕ → Type 0
UsesLocals may r = (a : Act) × IsLocalAct a × (may r a ≡ true)
