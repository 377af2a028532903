-- What an answer says of the atom that was made and of what it found, whatever core made it.
use Rattle.std.specs.Prelude.{◌≡◌, ◌≢◌, ℕ, ◌+◌, slice_index, Option, Some, None}
use Rattle.rl_word.specs.declared.acts.Atom.{Atom}
use Rattle.rl_word.specs.declared.acts.Atom.TheVariants as atom
use Rattle.rl_step.specs.declared.events.Stepped.{Stepped}
use Rattle.rl_step.specs.declared.events.Stepped.TheVariants.{Moved, Waiting, Lost, Busy, Finished}
use Rattle.rl_step.specs.Do.{TheWindow}

-- Lost: the atom's word had another value than the guess. The atom is a local compare-and-swap, which guesses its old value; or the load in a
-- card with which the card's own begins; or a load whose value is compared with what the rank saw before.
abbrev pub LosesAt : TheWindow → Atom → ℕ → ℕ → Type 0
LosesAt h (atom.Load w) guess seen = (slice_index h.words w ≡ seen) × (seen ≢ guess)
LosesAt h (atom.Store w n) guess seen = ⊥
LosesAt h (atom.LocalCas w old new) guess seen = (slice_index h.words w ≡ seen) × (seen ≢ guess) × (guess ≡ old)
LosesAt h (atom.Take n) guess seen = ⊥
LosesAt h (atom.CardLoad w) guess seen = (slice_index h.words w ≡ seen) × (seen ≢ guess)
LosesAt h (atom.CardStore w n) guess seen = ⊥
LosesAt h (atom.Leave n) guess seen = ⊥

-- By answer. Waiting: the atom loaded this word, which had this value. Busy: it would take this node's card, which this rank was in. No atom is
-- answered Finished.
abbrev pub AnswersTo : TheWindow → Atom → Stepped → Type 0
AnswersTo h at Moved = Unit {0}
AnswersTo h at (Waiting word value) = (at ≡ atom.Load word) × (slice_index h.words word ≡ value)
AnswersTo h at (Lost guess seen) = LosesAt h at guess seen
AnswersTo h at (Busy node holder) = (at ≡ atom.Take node) × (slice_index h.cards node ≡ holder + 1)
AnswersTo h at Finished = ⊥

-- the same of a rank that may have no next atom: it is answered Finished then
abbrev pub AnswersNext : TheWindow → Option Atom → Stepped → Type 0
AnswersNext h None answer = answer ≡ Finished
AnswersNext h (Some at) answer = AnswersTo h at answer
