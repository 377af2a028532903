-- Bytes that stand in a text, where a word ends behind them.
use Rattle.std.proofs.Common.{◌≡◌, ℕ, suc, ◌+◌, ◌<◌, ◌≤◌, Bool, true, false, ◌&&◌, ◌||◌, eqb, List, [], ◌∷◌, length, take, drop, length-drop, ◌-◌, refl, sym, ap, ◌∙◌, arith}
use Rattle.std.specs.Prelude.{slice_index_or}
use Rattle.std.specs.Cmp.Lexicographic.{pointwise}
use Rattle.std.proofs.Math.Seq.{drop-cons, take-length}
use Rattle.rl_drawing.specs.Sights.{begins_whole, stands_in}

both_true : (a b : Bool) → (a && b) ≡ true → (a ≡ true) × (b ≡ true)
both_true true b e = (refl, e)
both_true false b e = absurd cc

one_false : (a b c : Bool) → (a && b) ≡ false → (b ≡ false → c ≡ false) → (a && c) ≡ false
one_false true b c e on = on e
one_false false b c e on = refl

pub begins_front : (sought text : List ℕ) → pointwise eqb (take (length sought) text) sought ≡ true → begins_whole sought text ≡ begins_whole [] (drop (length sought) text)
begins_front [] [] e = refl
begins_front [] (b ∷ bs) e = refl
begins_front (s ∷ ss) [] e = absurd cc
begins_front (s ∷ ss) (b ∷ bs) e =
    let two = both_true (eqb b s) (pointwise eqb (take (length ss) bs) ss) e in
    ap (λ (z : Bool). z && begins_whole ss bs) two.0 ∙ begins_front ss bs two.1

pub begins_not : (sought text : List ℕ) → pointwise eqb (take (length sought) text) sought ≡ false → begins_whole sought text ≡ false
begins_not [] [] e = absurd cc
begins_not [] (b ∷ bs) e = absurd cc
begins_not (s ∷ ss) [] e = refl
begins_not (s ∷ ss) (b ∷ bs) e = one_false (eqb b s) (pointwise eqb (take (length ss) bs) ss) (begins_whole ss bs) e (begins_not ss bs)

pub ends_empty : (xs : List ℕ) → length xs < 1 → begins_whole [] xs ≡ true
ends_empty [] few = refl
ends_empty (x ∷ xs) few = absurd (omega arith)

pub ends_byte : (xs : List ℕ) → 1 ≤ length xs → begins_whole [] xs ≡ eqb (slice_index_or xs 0 0) 32
ends_byte [] some = absurd (omega arith)
ends_byte (x ∷ xs) some = refl

-- they don't begin here, so they stand behind the first byte
pub stands_on : (sought text : List ℕ) (i : ℕ) → i < length text → begins_whole sought (drop i text) ≡ false → stands_in sought (drop i text) ≡ stands_in sought (drop (i + 1) text)
stands_on sought text i low not_here =
    let next = drop-cons text i 0 low in
    let one : suc i ≡ i + 1 = omega arith in
    ap (stands_in sought) next
    ∙ ap (λ (z : Bool). z || stands_in sought (drop (suc i) text)) (sym (ap (begins_whole sought) next) ∙ not_here)
    ∙ ap (λ n. stands_in sought (drop n text)) one

pub stands_here : (sought text : List ℕ) (i : ℕ) → i < length text → begins_whole sought (drop i text) ≡ true → stands_in sought (drop i text) ≡ true
stands_here sought text i low here =
    let next = drop-cons text i 0 low in
    ap (stands_in sought) next ∙ ap (λ (z : Bool). z || stands_in sought (drop (suc i) text)) (sym (ap (begins_whole sought) next) ∙ here)

-- what is left of a text from there on
pub rest_is : (i : ℕ) (text : List ℕ) → take (length text - i) (drop i text) ≡ drop i text
rest_is i text = ap (λ n. take n (drop i text)) (sym (length-drop i text)) ∙ take-length (drop i text)
