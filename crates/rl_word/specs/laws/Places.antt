-- What stands at a place of a list: after a write, after a function on all elements, and that it is one element.
use Rattle.std.specs.Prelude.{◌≡◌, ◌≢◌, ◌⊎◌, ℕ, zero, suc, ◌<◌, List, [], ◌∷◌, length, map, slice_get, slice_set, Some, refl}
use Rattle.std.proofs.Common.{sym, ◌∙◌, ap, subst, inl, inr, ⊎_elim, arith}
use Rattle.std.proofs.lemmas.Option.{same_Some}

-- after a write at r, an element stands at r and is the new one, or stands elsewhere and is an old one
pub get_set_cases : {X : Type 0} (xs : List X) (r i : ℕ) (w u : X) → slice_get (slice_set xs r w) i ≡ Some u → ((i ≡ r) × (u ≡ w)) ⊎ ((i ≢ r) × (slice_get xs i ≡ Some u))
get_set_cases [] r i w u h = cc
get_set_cases (x ∷ xs) zero zero w u h = inl (refl, sym (same_Some _ _ h))
get_set_cases (x ∷ xs) zero (suc i) w u h = inr (λ e. cc, h)
get_set_cases (x ∷ xs) (suc r) zero w u h = inr (λ e. cc, h)
get_set_cases (x ∷ xs) (suc r) (suc i) w u h =
    ⊎_elim (λ p. inl (ap suc p.0, p.1)) (λ p. inr (λ e. p.0 (grind arith), p.1)) (get_set_cases xs r i w u h)

-- at the place of a write that was there stands what was written
pub get_set_same : {X : Type 0} (xs : List X) (r : ℕ) (v w : X) → slice_get xs r ≡ Some v → slice_get (slice_set xs r w) r ≡ Some w
get_set_same [] r v w h = cc
get_set_same (x ∷ xs) zero v w h = refl
get_set_same (x ∷ xs) (suc r) v w h = get_set_same xs r v w h

-- another place has what it had before the write
pub get_set_other : {X : Type 0} (xs : List X) (r i : ℕ) (w : X) → i ≢ r → slice_get (slice_set xs r w) i ≡ slice_get xs i
get_set_other [] r i w ne = refl
get_set_other (x ∷ xs) zero zero w ne = absurd (ne refl)
get_set_other (x ∷ xs) zero (suc i) w ne = refl
get_set_other (x ∷ xs) (suc r) zero w ne = refl
get_set_other (x ∷ xs) (suc r) (suc i) w ne = get_set_other xs r i w (λ e. ne (ap suc e))

-- two numbers are the same or not
pub same_or_not : (i r : ℕ) → (i ≡ r) ⊎ (i ≢ r)
same_or_not zero zero = inl refl
same_or_not zero (suc r) = inr (λ e. cc)
same_or_not (suc i) zero = inr (λ e. cc)
same_or_not (suc i) (suc r) = ⊎_elim (λ e. inl (ap suc e)) (λ ne. inr (λ e. ne (omega arith))) (same_or_not i r)

-- a write of what stands there changes nothing
pub set_same_get : {X : Type 0} (xs : List X) (r : ℕ) (v : X) → slice_get xs r ≡ Some v → slice_set xs r v ≡ xs
set_same_get [] r v h = refl
set_same_get (x ∷ xs) zero v h = ap (λ z. z ∷ xs) (sym (same_Some _ _ h))
set_same_get (x ∷ xs) (suc r) v h = ap (λ zs. x ∷ zs) (set_same_get xs r v h)

-- a function on all elements, at a place
pub get_map : {X Y : Type 0} (f : X → Y) (xs : List X) (r : ℕ) (v : X) → slice_get xs r ≡ Some v → slice_get (map f xs) r ≡ Some (f v)
get_map f [] r v h = cc
get_map f (x ∷ xs) zero v h = ap (λ z. Some (f z)) (same_Some _ _ h)
get_map f (x ∷ xs) (suc r) v h = get_map f xs r v h

-- what stands at a place after a function on all elements is the function of what stood there
pub get_map_back : {X Y : Type 0} (f : X → Y) (xs : List X) (r : ℕ) (y : Y) → slice_get (map f xs) r ≡ Some y → (x : X) × (slice_get xs r ≡ Some x) × (f x ≡ y)
get_map_back f [] r y h = cc
get_map_back f (x ∷ xs) zero y h = (x, refl, same_Some _ _ h)
get_map_back f (x ∷ xs) (suc r) y h = get_map_back f xs r y h

-- a function on all elements and a write change places
pub map_set : {X Y : Type 0} (f : X → Y) (xs : List X) (r : ℕ) (v : X) → map f (slice_set xs r v) ≡ slice_set (map f xs) r (f v)
map_set f [] r v = refl
map_set f (x ∷ xs) zero v = refl
map_set f (x ∷ xs) (suc r) v = ap (λ zs. f x ∷ zs) (map_set f xs r v)

-- a place of a list has one element
pub one_at : {X : Type 0} (xs : List X) (r : ℕ) (v w : X) → slice_get xs r ≡ Some v → slice_get xs r ≡ Some w → v ≡ w
one_at xs r v w a b = same_Some _ _ (sym a ∙ b)

-- a place within a list has an element
pub some_at : {X : Type 0} (xs : List X) (r : ℕ) → r < length xs → (v : X) × (slice_get xs r ≡ Some v)
some_at [] r h = absurd (omega arith)
some_at (x ∷ xs) zero h = (x, refl)
some_at (x ∷ xs) (suc r) h = let k : r < length xs = omega arith in some_at xs r k

-- what holds of each element after a write: it holds of the new one, and of the others as before
pub each_set : {X : Type 0} (P : ℕ → X → Type 0) (xs : List X) (r : ℕ) (w : X) → P r w → ((i : ℕ) (u : X) → i ≢ r → slice_get xs i ≡ Some u → P i u) →
    (i : ℕ) (u : X) → slice_get (slice_set xs r w) i ≡ Some u → P i u
each_set P xs r w here others i u h =
    ⊎_elim (λ c. subst (λ j. P j u) (sym c.0) (subst (P r) (sym c.1) here)) (λ c. others i u c.0 c.1) (get_set_cases xs r i w u h)
