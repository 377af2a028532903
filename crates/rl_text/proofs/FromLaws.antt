-- The words of a line from one of them on.
use Rattle.std.proofs.Common.{◌≡◌, ℕ, zero, suc, ◌+◌, ◌-◌, ◌≤◌, List, [], ◌∷◌, drop, Some, Result, Ok, Err, refl, zero-add, suc-add, arith}
use Rattle.std.specs.List.{slice_get}
use Rattle.rl_text.specs.Rows.{Row, words, word_at}
use Rattle.rl_text.specs.Reading.{◌>>=◌}
use Rattle.rl_text.proofs.WordLaws.{words-cons}

-- what follows a step that did not fail
pub from_bind : {A B E P : Type 0} (r : Result A E) (f : A → Result B E) (y : B) → (r >>= f) ≡ Ok y → ((x : A) → r ≡ Ok x → f x ≡ Ok y → P) → P
from_bind (Ok x) f y e then = then x refl e
from_bind (Err d) f y e then = absurd cc

-- the words from word n on
abbrev pub rest_from : Row → ℕ → List (List ℕ)
rest_from row n = drop (n - 1) (words row)

pub rest_from-word : (row : Row) (n m : ℕ) (w : List ℕ) → 1 ≤ n → m ≡ n + 1 → word_at row n ≡ Some w → rest_from row n ≡ w ∷ rest_from row m
rest_from-word row n m w one next e =
    let k : suc (n - 1) ≡ m - 1 = omega arith in
    words-cons (words row) (n - 1) w (rest_from row m) e (rw k refl)

slice_get-drop : (ws : List (List ℕ)) (i k : ℕ) → slice_get (drop i ws) k ≡ slice_get ws (i + k)
slice_get-drop ws zero k = rw zero-add refl
slice_get-drop [] (suc i) k = refl
slice_get-drop (w ∷ ws) (suc i) k = rw suc-add (slice_get-drop ws i k)

-- word k of what begins at word n
pub word_at-rest : (row : Row) (n m k : ℕ) (ws : List (List ℕ)) → 1 ≤ n → m ≡ n + k → rest_from row n ≡ ws → word_at row m ≡ slice_get ws k
word_at-rest row n m k ws one is e =
    let i : m - 1 ≡ (n - 1) + k = omega arith in
    rw (i, ← slice_get-drop (words row) (n - 1) k, e) refl

-- steps in a row
pub bind_assoc : {A B C E : Type 0} (r : Result A E) (f : A → Result B E) (g : B → Result C E) → ((r >>= f) >>= g) ≡ (r >>= λ x. f x >>= g)
bind_assoc (Ok x) f g = refl
bind_assoc (Err e) f g = refl
