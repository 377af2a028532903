-- Of ranks with these views none is urgent, or one is chosen: the most urgent one, and the first of those that are as urgent.
use Rattle.std.specs.Prelude.{◌≡◌, ◌⊎◌, ℕ, zero, suc, ◌<◌, ◌≤◌, List, [], ◌∷◌, slice_get, Option, Some, None, refl}
use Rattle.std.proofs.Common.{sym, ◌∙◌, ap, inl, inr, ⊎_elim, arith}
use Rattle.std.proofs.lemmas.Bool.{cases_lt}
use Rattle.std.proofs.lemmas.Option.{same_Some}
use Rattle.rl_ending.specs.Guiding.{IsChosen, NoneUrgent}

some_or_none : (o : Option ℕ) → (o ≡ None) ⊎ ((n : ℕ) × (o ≡ Some n))
some_or_none None = inl refl
some_or_none (Some n) = inr (n, refl)

module _ {V : Type 0} (urgent : V → Option ℕ) where
  -- the first of all is chosen where the others are no more urgent
  at_head : (x : V) (xs : List V) (u : ℕ) → urgent x ≡ Some u →
      ((i : ℕ) (v : V) (n : ℕ) → slice_get xs i ≡ Some v → urgent v ≡ Some n → u ≤ n) → IsChosen urgent (x ∷ xs) 0
  at_head x xs u e rest = record { view = x; has = refl; urgency = u; is_urgent = e; least = least; first = λ i v n h a lt. absurd (omega arith) } where
    least : (i : ℕ) (v : V) (n : ℕ) → slice_get (x ∷ xs) i ≡ Some v → urgent v ≡ Some n → u ≤ n
    least zero v n h a = let same : u ≡ n = same_Some u n (sym e ∙ (ap urgent (same_Some x v h) ∙ a)) in omega arith
    least (suc i) v n h a = rest i v n h a

  -- who was chosen of the others still is where the first isn't as urgent
  behind : (x : V) (xs : List V) (r : ℕ) (c : IsChosen urgent xs r) → ((n : ℕ) → urgent x ≡ Some n → c.urgency < n) → IsChosen urgent (x ∷ xs) (suc r)
  behind x xs r c more = record { view = c.view; has = c.has; urgency = c.urgency; is_urgent = c.is_urgent; least = least; first = first } where
    at_first : (v : V) (n : ℕ) → Some x ≡ Some v → urgent v ≡ Some n → c.urgency < n
    at_first v n h a = more n (ap urgent (same_Some x v h) ∙ a)

    least : (i : ℕ) (v : V) (n : ℕ) → slice_get (x ∷ xs) i ≡ Some v → urgent v ≡ Some n → c.urgency ≤ n
    least zero v n h a = let lt = at_first v n h a in omega arith
    least (suc i) v n h a = c.least i v n h a

    first : (i : ℕ) (v : V) (n : ℕ) → slice_get (x ∷ xs) i ≡ Some v → urgent v ≡ Some n → i < suc r → c.urgency < n
    first zero v n h a lt = at_first v n h a
    first (suc i) v n h a lt = let l : i < r = omega arith in c.first i v n h a l

  pub chosen_or_none : (vs : List V) → NoneUrgent urgent vs ⊎ ((r : ℕ) × IsChosen urgent vs r)
  chosen_or_none [] = inl (λ i v h. cc)
  chosen_or_none (x ∷ xs) =
      ⊎_elim
      (λ none. ⊎_elim
      (λ e. inl (all_none none e))
      (λ u. inr (0, at_head x xs u.0 u.1 (λ i v n h a. let no : None ≡ Some n = sym (none i v h) ∙ a in cc)))
      (some_or_none (urgent x)))
      (λ c. ⊎_elim
      (λ e. inr (suc c.0, behind x xs c.0 c.1 (λ n a. let no : None ≡ Some n = sym e ∙ a in cc)))
      (λ u. ⊎_elim
      (λ lt. inr (suc c.0, behind x xs c.0 c.1 (λ n a. let same : u.0 ≡ n = same_Some u.0 n (sym u.1 ∙ a) in omega arith)))
      (λ ge. inr (0, at_head x xs u.0 u.1 (λ i v n h a. let k = c.1.least i v n h a in omega arith)))
      (cases_lt c.1.urgency u.0))
      (some_or_none (urgent x)))
      (chosen_or_none xs) where
        all_none : NoneUrgent urgent xs → urgent x ≡ None → (i : ℕ) (v : V) → slice_get (x ∷ xs) i ≡ Some v → urgent v ≡ None
        all_none none e zero v h = ap urgent (sym (same_Some x v h)) ∙ e
        all_none none e (suc i) v h = none i v h
