-- The atoms of a way of working are loads and stores alone, and the parts of a block are told one by one.
use Rattle.std.specs.Prelude.{◌≡◌, ℕ, ◌+◌, List, [], ◌∷◌}
use Rattle.rl_word.specs.declared.acts.Atom.{Atom}
use Rattle.rl_word.specs.declared.acts.Atom.TheVariants as atom
use Rattle.rl_model.specs.declared.entry.Entry.{Entry}

-- an atom is a load or a store
abbrev pub IsPlain : Atom → Type 0
IsPlain (atom.Load w) = Unit {0}
IsPlain (atom.Store w v) = Unit {0}
IsPlain (atom.LocalCas w old new) = ⊥
IsPlain (atom.Take n) = ⊥
IsPlain (atom.CardLoad w) = ⊥
IsPlain (atom.CardStore w v) = ⊥
IsPlain (atom.Leave n) = ⊥

-- the parts rise from a number on
abbrev pub Rises : ℕ → List Entry → Type 0
Rises n [] = Unit {0}
Rises n (e ∷ es) = (e.part ≡ n) × Rises (n + 1) es
