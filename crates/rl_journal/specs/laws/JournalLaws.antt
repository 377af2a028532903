-- Stretches of words that agree with a list, under a write; and the words of several entries.
use Rattle.std.specs.Prelude.{◌≡◌, ◌≢◌, ◌⊎◌, ℕ, zero, suc, ◌+◌, ◌-◌, ◌*◌, ◌<◌, ◌≤◌, List, [], ◌∷◌, ◌++◌, length, take, slice_index, slice_set, refl}
use Rattle.std.proofs.Common.{sym, ◌∙◌, ap, subst, inl, inr, ⊎_elim, arith, length-append, length-take, get_or-set_other, get_or-set_same}
use Rattle.std.proofs.lemmas.List.{get_or-take, get_or_append_left, get_or-append-add}
use Rattle.rl_model.specs.declared.entry.Entry.{Entry}
use Rattle.rl_journal.specs.Journal.{spelling, spelled, Agrees}

-- a write elsewhere
pub agrees_elsewhere : (words : List ℕ) (from : ℕ) (list : List ℕ) (w v : ℕ) → Agrees words from list →
    ((i : ℕ) → i < length list → from + i ≢ w) → Agrees (slice_set words w v) from list
agrees_elsewhere words from list w v a away i h = get_or-set_other words w (from + i) v 0 (away i h) ∙ a i h

-- the same words for two lists behind one another
pub agrees_append : (words : List ℕ) (from : ℕ) (xs ys : List ℕ) → Agrees words from xs → Agrees words (from + length xs) ys → Agrees words from (xs ++ ys)
agrees_append words from xs ys a b i h =
    elim (◌≤◌_or xs i) [
      | inl below ↦ a i below ∙ sym (get_or_append_left xs ys 0 i below)
      | inr behind ↦
          let j : ℕ = i - length xs in
          let e : length xs + j ≡ i = omega arith in
          let inside : j < length ys = omega (arith, length-append xs ys) in
          ap (slice_index words) (omega arith) ∙ b j inside ∙ sym (get_or-append-add xs ys j 0) ∙ ap (slice_index (xs ++ ys)) e
    ] where
      ◌≤◌_or : (xs : List ℕ) (i : ℕ) → (i < length xs) ⊎ (length xs ≤ i)
      ◌≤◌_or [] i = inr (omega arith)
      ◌≤◌_or (x ∷ xs) zero = inl (omega arith)
      ◌≤◌_or (x ∷ xs) (suc i) = ⊎_elim (λ h. inl (omega arith)) (λ h. inr (omega arith)) (◌≤◌_or xs i)

-- one word more
pub agrees_more : (words : List ℕ) (from : ℕ) (list : List ℕ) (n : ℕ) → n < length list → from + n < length words → Agrees words from (take n list) →
    Agrees (slice_set words (from + n) (slice_index list n)) from (take (n + 1) list)
agrees_more words from list n h there a i inside =
    let short : i < n + 1 = omega (arith, length-take (n + 1) list) in
    let read : slice_index (take (n + 1) list) i ≡ slice_index list i = get_or-take (n + 1) list i 0 short in
    ⊎_elim
    (λ (low : i < n).
    let kept : i < length (take n list) = omega (arith, length-take n list) in
    get_or-set_other words (from + n) (from + i) (slice_index list n) 0 (λ e. absurd (omega arith)) ∙ a i kept ∙ get_or-take n list i 0 low ∙ sym read)
    (λ (e : i ≡ n). subst (λ z. slice_index (slice_set words (from + n) (slice_index list n)) (from + z) ≡ slice_index list z) (sym e)
    (get_or-set_same words (from + n) (slice_index list n) 0 there) ∙ sym read)
    (low_or_last i n short)
  where
    low_or_last : (i n : ℕ) → i < n + 1 → (i < n) ⊎ (i ≡ n)
    low_or_last zero zero h = inr refl
    low_or_last zero (suc n) h = inl (omega arith)
    low_or_last (suc i) zero h = absurd (omega arith)
    low_or_last (suc i) (suc n) h = ⊎_elim (λ l. inl (omega arith)) (λ e. inr (ap suc e)) (low_or_last i n (omega arith))

-- a stretch that nothing stands in
pub agrees_none : (words : List ℕ) (from : ℕ) → Agrees words from []
agrees_none words from i h = absurd (omega arith)

-- each entry has six words
pub length_spelled : (es : List Entry) → length (spelled es) ≡ 6 * length es
length_spelled [] = refl
length_spelled (e ∷ es) = omega (arith, length_spelled es, length-append (spelling e) (spelled es))

pub spelled_append : (es fs : List Entry) → spelled (es ++ fs) ≡ spelled es ++ spelled fs
spelled_append [] fs = refl
spelled_append (e ∷ es) fs = ap (λ z. spelling e ++ z) (spelled_append es fs) ∙ sym (assoc (spelling e) (spelled es) (spelled fs)) where
  assoc : (a b c : List ℕ) → (a ++ b) ++ c ≡ a ++ (b ++ c)
  assoc [] b c = refl
  assoc (x ∷ a) b c = ap (λ z. x ∷ z) (assoc a b c)
