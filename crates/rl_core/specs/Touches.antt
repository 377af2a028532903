-- What the lock of a shard guards: count, volume and journal, the words before its own. Who comes to them, and how it is told.
use Rattle.std.specs.Prelude.{◌≡◌, ◌⊎◌, ℕ, ◌<◌, ◌≤◌, true, false, List, [], ◌∷◌, take}
use Rattle.rl_word.specs.declared.acts.Atom.{Atom}
use Rattle.rl_word.specs.declared.acts.Atom.TheVariants as atom
use Rattle.rl_model.specs.declared.call.Call.{Call}
use Rattle.rl_step.specs.declared.events.Event.{Event}
use Rattle.rl_step.specs.declared.events.Event.TheVariants.{Touch}
use Rattle.rl_step.specs.declared.events.Standing.{Standing}
use Rattle.rl_step.specs.declared.events.Standing.TheVariants.{Asking, Writer}
use Rattle.rl_step.specs.Lock.{IsHolder}
use Rattle.rl_step.specs.Do.{do_words}
use Rattle.rl_site.specs.Opens.{IsGetAlone}

-- the touches among these events
abbrev pub touches_of : List Event → List Event
touches_of [] = []
touches_of (Touch k w ∷ es) = Touch k w ∷ touches_of es
touches_of (e ∷ es) = touches_of es

-- a rank loads a guarded word as a holder, and its atom comes with one touch, which reads; or with a get alone open for which it isn't at the
-- lock, and with no touch
abbrev pub LoadsGuarded : ℕ → Standing → List Call → List Event → Type 0
LoadsGuarded r st calls es = (IsHolder st × (touches_of es ≡ Touch r false ∷ [])) ⊎ ((st ≡ Asking) × IsGetAlone calls × (touches_of es ≡ []))

-- it stores to one as a writer alone, and its atom comes with one touch, which writes
abbrev pub StoresGuarded : ℕ → Standing → List Event → Type 0
StoresGuarded r st es = (st ≡ Writer) × (touches_of es ≡ Touch r true ∷ [])

-- The atom of rank r, which stands so and has these calls open, comes with these events. The guarded words are those before base, the first
-- of the lock's. Loads and stores alone name them, and other atoms come with no touch.
abbrev pub IsGuarded : ℕ → ℕ → Atom → Standing → List Call → List Event → Type 0
IsGuarded base r (atom.Load w) st calls es = (w < base → LoadsGuarded r st calls es) × (base ≤ w → touches_of es ≡ [])
IsGuarded base r (atom.Store w n) st calls es = (w < base → StoresGuarded r st es) × (base ≤ w → touches_of es ≡ [])
IsGuarded base r (atom.LocalCas w old new) st calls es = (base ≤ w) × (touches_of es ≡ [])
IsGuarded base r (atom.Take n) st calls es = touches_of es ≡ []
IsGuarded base r (atom.CardLoad w) st calls es = (base ≤ w) × (touches_of es ≡ [])
IsGuarded base r (atom.CardStore w n) st calls es = (base ≤ w) × (touches_of es ≡ [])
IsGuarded base r (atom.Leave n) st calls es = touches_of es ≡ []

-- an atom leaves the guarded words as they are; or it is a writer's, and comes with one touch, which writes
abbrev pub ChangesGuarded : ℕ → ℕ → Atom → Standing → List Event → List ℕ → Type 0
ChangesGuarded base r at st es words = (take base (do_words at words) ≡ take base words) ⊎ StoresGuarded r st es

-- the atom names this word
abbrev pub NamesWord : Atom → ℕ → Type 0
NamesWord (atom.Load w) k = w ≡ k
NamesWord (atom.Store w v) k = w ≡ k
NamesWord (atom.LocalCas w old new) k = w ≡ k
NamesWord (atom.Take n) k = ⊥
NamesWord (atom.CardLoad w) k = w ≡ k
NamesWord (atom.CardStore w v) k = w ≡ k
NamesWord (atom.Leave n) k = ⊥
