-- Places in lists.
use Rattle.std.proofs.Common.{◌≡◌, ◌⊎◌, ℕ, zero, suc, ◌+◌, ◌<◌, ◌≤◌, List, [], ◌∷◌, ◌++◌, length, take, drop, Some, refl, ap, ◌∙◌, inl, inr, ⊎_elim, arith, add-one}
use Rattle.std.specs.Prelude.{slice_get}
use Rattle.std.proofs.lemmas.Option.{same_Some}

-- below the next number, or this one
pub below_next : (j p : ℕ) → j < p + 1 → (j < p) ⊎ (j ≡ p)
below_next zero zero h = inr refl
below_next zero (suc p) h = inl (omega arith)
below_next (suc j) zero h = absurd (omega arith)
below_next (suc j) (suc p) h = ⊎_elim (λ l. inl (omega arith)) (λ e. inr (ap suc e)) (below_next j p (omega arith))

-- so far beyond a number
pub away : (b p : ℕ) → b ≤ p → (k : ℕ) × (p ≡ b + k)
away zero p h = (p, omega arith)
away (suc b) zero h = absurd (omega arith)
away (suc b) (suc p) h = let q = away b p (omega arith) in (q.0, let e = q.1 in omega arith)

-- the first elements and one more
pub take_next : {X : Type 0} (xs : List X) (p : ℕ) (x : X) → slice_get xs p ≡ Some x → take (suc p) xs ≡ take p xs ++ x ∷ []
take_next [] p x get = absurd (cc)
take_next (y ∷ xs) zero x get = ap (λ z. z ∷ []) (same_Some _ _ get)
take_next (y ∷ xs) (suc p) x get = ap (λ zs. y ∷ zs) (take_next xs p x get)

pub take_more : {X : Type 0} (xs : List X) (p : ℕ) (x : X) → slice_get xs p ≡ Some x → take (p + 1) xs ≡ take p xs ++ x ∷ []
take_more xs p x get = ap (λ n. take n xs) (add-one p) ∙ take_next xs p x get

-- an element of a stretch
in_front : {X : Type 0} (xs : List X) (n k : ℕ) (x : X) → slice_get (take n xs) k ≡ Some x → (k < n) × (slice_get xs k ≡ Some x)
in_front [] zero k x get = absurd (cc)
in_front [] (suc n) k x get = absurd (cc)
in_front (y ∷ xs) zero k x get = absurd (cc)
in_front (y ∷ xs) (suc n) zero x get = (omega arith, get)
in_front (y ∷ xs) (suc n) (suc k) x get = let q = in_front xs n k x get in (let h = q.0 in omega arith, q.1)

behind : {X : Type 0} (xs : List X) (i k : ℕ) (x : X) → slice_get (drop i xs) k ≡ Some x → slice_get xs (i + k) ≡ Some x
behind [] zero k x get = absurd (cc)
behind [] (suc i) k x get = absurd (cc)
behind (y ∷ xs) zero k x get = ap (slice_get (y ∷ xs)) (omega arith) ∙ get
behind (y ∷ xs) (suc i) k x get = let at : suc i + k ≡ suc (i + k) = omega arith in ap (slice_get (y ∷ xs)) at ∙ behind xs i k x get

pub in_stretch : {X : Type 0} (xs : List X) (i n k : ℕ) (x : X) → slice_get (take n (drop i xs)) k ≡ Some x → (k < n) × (slice_get xs (i + k) ≡ Some x)
in_stretch xs i n k x get = let q = in_front (drop i xs) n k x get in (q.0, behind xs i k x q.1)

pub length_stretch : {X : Type 0} (xs : List X) (i n : ℕ) → i + n ≤ length xs → length (take n (drop i xs)) ≡ n
length_stretch [] i zero h = refl
length_stretch [] i (suc n) h = absurd (omega arith)
length_stretch (y ∷ xs) zero zero h = refl
length_stretch (y ∷ xs) zero (suc n) h = ap suc (length_stretch xs zero n (omega arith))
length_stretch (y ∷ xs) (suc i) n h = length_stretch xs i n (omega arith)
