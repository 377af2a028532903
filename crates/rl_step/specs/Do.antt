-- What an atom does to the words and cards of a window, what it gives, and when it can be made.
use Rattle.std.specs.Prelude.{◌≡◌, ℕ, ◌+◌, ◌<◌, ◌==◌, List, length, if◌then◌else◌, slice_index, slice_set}
use Rattle.rl_word.specs.declared.acts.Atom.{Atom}
use Rattle.rl_word.specs.declared.acts.Atom.TheVariants.{Load, Store, LocalCas, Take, CardLoad, CardStore, Leave}

-- the value of a window: its words, and one card for each node, which is 0 while it is free and one more than the rank that is in it
pub record TheWindow : Type 0 where
  pub words : List ℕ
  pub cards : List ℕ

-- the words after the atom
abbrev pub do_words : Atom → List ℕ → List ℕ
do_words (Store w v) ws = slice_set ws w v
do_words (LocalCas w old new) ws = if slice_index ws w == old then slice_set ws w new else ws
do_words (CardStore w v) ws = slice_set ws w v
do_words _ ws = ws

-- the cards after the rank's atom: a take enters a card that is free, and changes nothing where another is in it
abbrev pub do_cards : ℕ → Atom → List ℕ → List ℕ
do_cards rank (Take n) cs = if slice_index cs n == 0 then slice_set cs n (rank + 1) else cs
do_cards rank (Leave n) cs = slice_set cs n 0
do_cards rank _ cs = cs

-- what the atom gives: the value found, or the card found by a take; 0 where it only writes
abbrev pub do_got : Atom → List ℕ → List ℕ → ℕ
do_got (Load w) ws cs = slice_index ws w
do_got (LocalCas w old new) ws cs = slice_index ws w
do_got (Take n) ws cs = slice_index cs n
do_got (CardLoad w) ws cs = slice_index ws w
do_got _ ws cs = 0

-- the window after the rank's atom
abbrev pub do_atom : ℕ → Atom → TheWindow → TheWindow
do_atom rank at s = record { words = do_words at s.words; cards = do_cards rank at s.cards }

-- The rank can make the atom: its word or node is there; a load or store through a card wants the rank in the card of the
-- word's home, whose number is given, and a leave wants it in the card that it leaves.
abbrev pub CanDo : ℕ → ℕ → Atom → List ℕ → List ℕ → Type 0
CanDo home rank (Load w) ws cs = w < length ws
CanDo home rank (Store w v) ws cs = w < length ws
CanDo home rank (LocalCas w old new) ws cs = w < length ws
CanDo home rank (Take n) ws cs = n < length cs
CanDo home rank (CardLoad w) ws cs = (w < length ws) × (home < length cs) × (slice_index cs home ≡ rank + 1)
CanDo home rank (CardStore w v) ws cs = (w < length ws) × (home < length cs) × (slice_index cs home ≡ rank + 1)
CanDo home rank (Leave n) ws cs = (n < length cs) × (slice_index cs n ≡ rank + 1)
