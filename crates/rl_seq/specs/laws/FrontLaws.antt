-- The words before the lock's, and the version, under an atom.
use Rattle.std.specs.Prelude.{◌≡◌, ℕ, zero, suc, ◌+◌, ◌<◌, ◌≤◌, List, [], ◌∷◌, length, take, slice_index, slice_set, refl}
use Rattle.std.proofs.Common.{sym, ap, arith, get_or-set_other, get_or-set_same}
use Rattle.std.proofs.lemmas.List.{take-set-le, get_or-take, length-take-le}
use Rattle.rl_word.specs.declared.acts.Atom.{Atom}
use Rattle.rl_word.specs.declared.acts.Atom.TheVariants as atom
use Rattle.rl_step.specs.Do.{CanDo, do_got, do_words}
use Rattle.rl_work.specs.PlainWork.{IsPlain}
use Rattle.rl_site.specs.Site.{lock_base, WaySite}
use Rattle.rl_seq.specs.Site.{front, version_in}

-- a store among the first words of a list is one on them alone
take_set_in : (n : ℕ) (l : List ℕ) (i v : ℕ) → i < n → take n (slice_set l i v) ≡ slice_set (take n l) i v
take_set_in zero l i v h = absurd (omega arith)
take_set_in (suc n) [] i v h = refl
take_set_in (suc n) (x ∷ xs) zero v h = refl
take_set_in (suc n) (x ∷ xs) (suc i) v h = ap (λ z. x ∷ z) (take_set_in n xs i v (omega arith))

module _ (at : WaySite) (words : List ℕ) (behind : lock_base at.site ≤ at.behind) (size : length words ≡ at.behind + 1) where
  pub front_long : length (front at words) ≡ lock_base at.site
  front_long = length-take-le (lock_base at.site) words (omega arith)

  -- a word before the lock's
  pub front_get : (w : ℕ) → w < lock_base at.site → slice_index (front at words) w ≡ slice_index words w
  front_get w h = get_or-take (lock_base at.site) words w 0 h

  -- the version is stored
  pub version_stored : (v : ℕ) → version_in at (slice_set words at.behind v) ≡ v
  version_stored v = get_or-set_same words at.behind v 0 (omega arith)

  pub front_kept : (v : ℕ) → front at (slice_set words at.behind v) ≡ front at words
  front_kept v = take-set-le (lock_base at.site) words at.behind v behind

  -- an atom of the work inside the lock
  pub record IsInFront (a : Atom) (cards : List ℕ) : Type 0 where
    pub words_are : front at (do_words a words) ≡ do_words a (front at words)
    pub got_is : do_got a words cards ≡ do_got a (front at words) cards
    pub same_version : version_in at (do_words a words) ≡ version_in at words

  pub in_front : (home r : ℕ) (a : Atom) (cards : List ℕ) → IsPlain a → CanDo home r a (front at words) cards → IsInFront a cards
  in_front home r (atom.Load w) cards p c =
      let there : w < length (front at words) = c in
      let here : w < lock_base at.site = omega (arith, front_long) in
      record { words_are = refl; got_is = sym (front_get w here); same_version = refl }
  in_front home r (atom.Store w v) cards p c =
      let there : w < length (front at words) = c in
      let here : w < lock_base at.site = omega (arith, front_long) in
      record {
        words_are = take_set_in (lock_base at.site) words w v here;
        got_is = refl;
        same_version = get_or-set_other words w at.behind v 0 (λ q. absurd (omega arith));
      }
  in_front home r (atom.LocalCas w old new) cards p c = absurd p
  in_front home r (atom.Take n) cards p c = absurd p
  in_front home r (atom.CardLoad w) cards p c = absurd p
  in_front home r (atom.CardStore w v) cards p c = absurd p
  in_front home r (atom.Leave n) cards p c = absurd p
