-- An atom changes neither the number of words nor that of cards.
use Rattle.std.specs.Prelude.{◌≡◌, ℕ, ◌+◌, ◌==◌, Bool, true, false, List, length, if◌then◌else◌, slice_set, slice_index, refl}
use Rattle.std.proofs.Common.{length-set}
use Rattle.rl_word.specs.declared.acts.Atom.{Atom}
use Rattle.rl_word.specs.declared.acts.Atom.TheVariants.{Load, Store, LocalCas, Take, CardLoad, CardStore, Leave}
use Rattle.rl_step.specs.Do.{do_words, do_cards}

length_chosen : (l m : List ℕ) (b : Bool) → length m ≡ length l → length (if b then m else l) ≡ length l
length_chosen l m true e = e
length_chosen l m false e = refl

pub as_many_words : (a : Atom) (ws : List ℕ) → length (do_words a ws) ≡ length ws
as_many_words (Load w) ws = refl
as_many_words (Store w v) ws = length-set ws w v
as_many_words (LocalCas w old new) ws = length_chosen ws (slice_set ws w new) (slice_index ws w == old) (length-set ws w new)
as_many_words (Take n) ws = refl
as_many_words (CardLoad w) ws = refl
as_many_words (CardStore w v) ws = length-set ws w v
as_many_words (Leave n) ws = refl

pub as_many_cards : (r : ℕ) (a : Atom) (cs : List ℕ) → length (do_cards r a cs) ≡ length cs
as_many_cards r (Load w) cs = refl
as_many_cards r (Store w v) cs = refl
as_many_cards r (LocalCas w old new) cs = refl
as_many_cards r (Take n) cs = length_chosen cs (slice_set cs n (r + 1)) (slice_index cs n == 0) (length-set cs n (r + 1))
as_many_cards r (CardLoad w) cs = refl
as_many_cards r (CardStore w v) cs = refl
as_many_cards r (Leave n) cs = length-set cs n 0
