-- A list that a loop makes item by item, and the place of what isn't found.
use Rattle.std.proofs.Common.{◌≡◌, ℕ, zero, suc, ◌+◌, ◌<◌, Bool, true, false, not, cond, ltb, List, [], ◌∷◌, ◌++◌, length, map, take, get_or, Option, Some, None, refl, ap, ◌∙◌, add-one, arith}
use Rattle.std.specs.List.{position, position_or_len}
use Rattle.std.proofs.lemmas.Bool.{ltb-false}
use Rattle.std.proofs.lemmas.List.Sums.{prefix_len-le-length}

not_placed : (b : Bool) (n : ℕ) → ◌≡◌ {A = Option ℕ} (cond b (Some n) None) None → b ≡ false
not_placed true n e = absurd cc
not_placed false n e = refl

-- what isn't found has the length as its place
pub not_found : {X : Type 0} (test : X → Bool) (xs : List X) → position test xs ≡ None → position_or_len test xs ≡ length xs
not_found test xs e =
    let past = ltb-false (position_or_len test xs) (length xs) (not_placed (ltb (position_or_len test xs) (length xs)) (position_or_len test xs) e) in
    omega (arith, past, prefix_len-le-length (λ x. not (test x)) xs)

-- one item more of a list that is mapped
map-push : {X Y : Type 0} (f : X → Y) (xs : List X) (i : ℕ) (d : X) → i < length xs → map f (take (suc i) xs) ≡ map f (take i xs) ++ f (get_or xs i d) ∷ []
map-push f [] i d h = absurd (omega arith)
map-push f (x ∷ xs) zero d h = refl
map-push {Y = Y} f (x ∷ xs) (suc i) d h = ap (λ (ys : List Y). f x ∷ ys) (map-push f xs i d (omega arith))

pub map_more : {X Y : Type 0} (f : X → Y) (xs : List X) (i : ℕ) (d : X) (now next : List Y) (y : Y) → i < length xs → now ≡ map f (take i xs) → next ≡ now ++ y ∷ [] → y ≡ f (get_or xs i d) → next ≡ map f (take (i + 1) xs)
map_more f xs i d now next y h so_far pushed is = pushed ∙ rw (so_far, is, add-one, map-push f xs i d h) refl
