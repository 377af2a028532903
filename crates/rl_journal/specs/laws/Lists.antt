-- Places of lists behind one another, and of those that pass a test.
use Rattle.std.specs.Prelude.{◌≡◌, ◌⊎◌, ℕ, zero, suc, ◌+◌, ◌<◌, Bool, true, false, cond, List, [], ◌∷◌, ◌++◌, All, filter, length, slice_get, Some, refl}
use Rattle.std.proofs.Common.{◌∙◌, ap, subst, inl, inr, ⊎_elim, arith}
use Rattle.std.proofs.lemmas.List.Elements.{All-cons, All-nil, All-head, All-tail}
use Rattle.std.proofs.lemmas.Option.{slice_get_within, get_or_from_slice_get}

-- a place of two lists behind one another
pub get_cases : {X : Type 0} (xs ys : List X) (p : ℕ) (y : X) → slice_get (xs ++ ys) p ≡ Some y →
    ((p < length xs) × (slice_get xs p ≡ Some y)) ⊎ ((i : ℕ) × (p ≡ length xs + i) × (slice_get ys i ≡ Some y))
get_cases [] ys p y e = inr (p, omega arith, e)
get_cases (x ∷ xs) ys zero y e = inl (omega arith, e)
get_cases (x ∷ xs) ys (suc p) y e = ⊎_elim (λ q. inl (let h = q.0 in omega arith, q.1)) (λ q. inr (q.0, (let h = q.1 in omega arith), q.2))
    (get_cases xs ys p y e)

-- what stands in a list stands in a longer one
pub get_left : {X : Type 0} (xs ys : List X) (i : ℕ) (f : X) → slice_get xs i ≡ Some f → slice_get (xs ++ ys) i ≡ Some f
get_left [] ys i f get = absurd (cc)
get_left (x ∷ xs) ys zero f get = get
get_left (x ∷ xs) ys (suc i) f get = get_left xs ys i f get

-- a place of a list with one element more
pub get_more_cases : {X : Type 0} (xs : List X) (x : X) (p : ℕ) (y : X) → slice_get (xs ++ x ∷ []) p ≡ Some y →
    ((p < length xs) × (slice_get xs p ≡ Some y)) ⊎ ((p ≡ length xs) × (x ≡ y))
get_more_cases [] x zero y e = inr (refl, some_is e) where
  some_is : {X : Type 0} {a b : X} → Some a ≡ Some b → a ≡ b
  some_is e = cc
get_more_cases [] x (suc p) y e = absurd (cc)
get_more_cases (z ∷ xs) x zero y e = inl (omega arith, e)
get_more_cases (z ∷ xs) x (suc p) y e = ⊎_elim (λ q. inl (let h = q.0 in omega arith, q.1)) (λ q. inr (ap suc q.0, q.1)) (get_more_cases xs x p y e)

-- a filter that all pass, or none
pub filter_all : {X : Type 0} (p : X → Bool) (b : List X) → ((i : ℕ) (e : X) → slice_get b i ≡ Some e → p e ≡ true) → filter p b ≡ b
filter_all p [] all = refl
filter_all p (e ∷ es) all = ap (λ c. cond c (e ∷ filter p es) (filter p es)) (all 0 e refl) ∙ ap (λ z. e ∷ z) (filter_all p es (λ i f get. all (suc i) f get))

pub filter_none : {X : Type 0} (p : X → Bool) (b : List X) → ((i : ℕ) (e : X) → slice_get b i ≡ Some e → p e ≡ false) → filter p b ≡ []
filter_none p [] none = refl
filter_none p (e ∷ es) none = ap (λ c. cond c (e ∷ filter p es) (filter p es)) (none 0 e refl) ∙ filter_none p es (λ i f get. none (suc i) f get)

-- what holds of all elements holds of each
pub all_at : {X : Type 0} (P : X → Type 0) (xs : List X) (i : ℕ) (x : X) → All P xs → slice_get xs i ≡ Some x → P x
all_at P xs i x all get = subst P (get_or_from_slice_get xs i x x get) (all i x (slice_get_within xs i x get))

-- what holds of all that pass a test
pub passed : {X : Type 0} (p : X → Bool) (P : X → Type 0) (xs : List X) → All P (filter p xs) → All (λ x. p x ≡ true → P x) xs
passed p P [] all = All-nil (λ x. p x ≡ true → P x)
passed p P (x ∷ xs) all =
    elim (p x) as (λ b. p x ≡ b → All P (cond b (x ∷ filter p xs) (filter p xs)) → All (λ y. p y ≡ true → P y) (x ∷ xs)) [
      | true ↦ λ e a. All-cons (λ y. p y ≡ true → P y) x xs (λ _. All-head P x (filter p xs) a) (passed p P xs (All-tail P x (filter p xs) a))
      | false ↦ λ e a. All-cons (λ y. p y ≡ true → P y) x xs (λ yes. absurd (cc)) (passed p P xs a)
    ] refl all
