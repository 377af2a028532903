-- How a sum over the elements of a list changes where one element does.
use Rattle.std.specs.Prelude.{◌≡◌, ℕ, zero, suc, ◌+◌, ◌*◌, ◌<◌, ◌≤◌, List, [], ◌∷◌, length, slice_get, slice_set, sum_by, Some}
use Rattle.std.proofs.Common.{ap, arith}
use Rattle.std.proofs.lemmas.Option.{same_Some}
use Rattle.std.proofs.lemmas.List.Sums.{sum_by-cons}

pub sum_turned : {X : Type 0} (f : X → ℕ) (xs : List X) (r : ℕ) (p q : X) → slice_get xs r ≡ Some p → sum_by f (slice_set xs r q) + f p ≡ sum_by f xs + f q
sum_turned f [] r p q h = cc
sum_turned f (x ∷ xs) zero p q h = let e : f x ≡ f p = ap f (same_Some _ _ h) in omega (arith, sum_by-cons f x xs, sum_by-cons f q xs)
sum_turned f (x ∷ xs) (suc r) p q h = let k = sum_turned f xs r p q h in omega (arith, sum_by-cons f x xs, sum_by-cons f x (slice_set xs r q))

-- it falls where the element's part does, and grows by the part at most
pub sum_falls : {X : Type 0} (f : X → ℕ) (xs : List X) (r : ℕ) (p q : X) → slice_get xs r ≡ Some p → f q < f p → sum_by f (slice_set xs r q) < sum_by f xs
sum_falls f xs r p q h less = let k = sum_turned f xs r p q h in omega arith

pub sum_grows : {X : Type 0} (f : X → ℕ) (xs : List X) (r n : ℕ) (p q : X) → slice_get xs r ≡ Some p → f q ≤ n → sum_by f (slice_set xs r q) ≤ sum_by f xs + n
sum_grows f xs r n p q h few = let k = sum_turned f xs r p q h in omega arith

-- parts of so much at most
pub sum_few : {X : Type 0} (b : ℕ) (f : X → ℕ) → ((x : X) → f x ≤ b) → (xs : List X) → sum_by f xs ≤ b * length xs
sum_few b f few [] = omega arith
sum_few b f few (x ∷ xs) =
    let a = few x in
    let k = sum_few b f few xs in
    let e : b * suc (length xs) ≡ b * length xs + b = grind arith in
    omega (arith, sum_by-cons f x xs)
