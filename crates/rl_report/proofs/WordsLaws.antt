-- Words of a line from one on, and what a step of reading tells of them.
use Rattle.std.proofs.Common.{◌≡◌, ℕ, zero, suc, ◌+◌, ◌-◌, ◌≤◌, Bool, true, false, List, [], ◌∷◌, ◌++◌, length, drop, Some, None, Result, Ok, Err, refl, sym, ap, ◌∙◌, arith}
use Rattle.std.specs.List.{slice_get}
use Rattle.std.specs.Str.{bytes_eq}
use Rattle.std.proofs.lemmas.Slice.Eq.{bytes_eq-Decides}
use Rattle.rl_text.specs.declared.causes.Refusal.{Refusal}
use Rattle.rl_text.specs.Rows.{Row, words, word_at}
use Rattle.rl_text.proofs.FromLaws.{rest_from}
use Rattle.rl_text.proofs.WordLaws.{words-nil, words-cons}
use Rattle.rl_report.specs.Reading.{or_refused}

-- a test that held
pub test-takes : (b : Bool) (d : Refusal) (u : Unit {0}) → or_refused b d ≡ Ok u → b ≡ true
test-takes true d u e = refl
test-takes false d u e = absurd (cc)

-- no value is a refusal
pub refused_ok : {X : Type 0} (d : Refusal) (x : X) → ◌≡◌ {A = Result X Refusal} (Err d) (Ok x) → ⊥
refused_ok d x e = cc

-- the word that equals a name is that name
pub named : (row : Row) (n : ℕ) (word name : List ℕ) → word_at row n ≡ Some word → bytes_eq word name ≡ true → word_at row n ≡ Some name
named row n word name w same = w ∙ ap (λ (v : List ℕ). Some v) ((bytes_eq-Decides word name).0 same)

drop-append : (xs ys : List (List ℕ)) → drop (length xs) (xs ++ ys) ≡ ys
drop-append [] ys = refl
drop-append (x ∷ xs) ys = drop-append xs ys

drop-nil : (k : ℕ) → drop {A = List ℕ} k [] ≡ []
drop-nil zero = refl
drop-nil (suc k) = refl

drop-drop : (n m : ℕ) (xs : List (List ℕ)) → drop (n + m) xs ≡ drop m (drop n xs)
drop-drop zero m xs = ap (λ k. drop k xs) (omega arith)
drop-drop (suc n) m [] = drop-nil (suc n + m) ∙ sym (drop-nil m)
drop-drop (suc n) m (x ∷ xs) =
    let e : suc n + m ≡ suc (n + m) = omega arith in
    ap (λ k. drop k (x ∷ xs)) e ∙ drop-drop n m xs

-- what comes after some of the words
pub rest-after : (row : Row) (n m : ℕ) (xs ys : List (List ℕ)) → 1 ≤ n → m ≡ n + length xs → rest_from row n ≡ xs ++ ys → rest_from row m ≡ ys
rest-after row n m xs ys one is e =
    let k : m - 1 ≡ (n - 1) + length xs = omega arith in
    ap (λ i. drop i (words row)) k ∙ drop-drop (n - 1) (length xs) (words row) ∙ ap (drop (length xs)) e ∙ drop-append xs ys

-- no word comes
pub no_rest : (row : Row) (n : ℕ) → word_at row n ≡ None → rest_from row n ≡ []
no_rest row n none = words-nil (words row) (n - 1) none

-- ---- all words of a line, by their places

abbrev pub AreAt : Row → ℕ → List (List ℕ) → Type 0
AreAt row n [] = slice_get (words row) n ≡ None
AreAt row n (w ∷ ws) = (slice_get (words row) n ≡ Some w) × AreAt row (suc n) ws

pub all_words : (row : Row) (n : ℕ) (ws : List (List ℕ)) → AreAt row n ws → drop n (words row) ≡ ws
all_words row n [] none = words-nil (words row) n none
all_words row n (w ∷ ws) are = words-cons (words row) n w ws are.0 (all_words row (suc n) ws are.1)
