-- Cards that lie apart in the table: where each stands, what a write of one changes, and how free ones are laid out.
use Rattle.std.proofs.Common.{◌≡◌, ℕ, zero, suc, ◌+◌, ◌*◌, ◌-◌, List, [], ◌∷◌, ◌++◌, length, get_or, set, take, take_all, replicate, sym, refl, ap, ◌∙◌, arith}
use Rattle.rl_window.specs.Rule.{apart}

-- one card on is eight words on
later : (n : ℕ) → 8 * suc n + 7 ≡ suc (suc (suc (suc (suc (suc (suc (suc (8 * n + 7))))))))
later n = omega arith

pub at_apart : (cs : List ℕ) (n : ℕ) → get_or (apart cs) (8 * n + 7) 0 ≡ get_or cs n 0
at_apart [] n = refl
at_apart (c ∷ cs) zero = refl
at_apart (c ∷ cs) (suc n) = ap (λ (k : ℕ). get_or (apart (c ∷ cs)) k 0) (later n) ∙ at_apart cs n

pub set_apart : (cs : List ℕ) (n y : ℕ) → set (apart cs) (8 * n + 7) y ≡ apart (set cs n y)
set_apart [] n y = refl
set_apart (c ∷ cs) zero y = refl
set_apart (c ∷ cs) (suc n) y = ap (λ (k : ℕ). set (apart (c ∷ cs)) k y) (later n) ∙ ap (λ (l : List ℕ). 0 ∷ 0 ∷ 0 ∷ 0 ∷ 0 ∷ 0 ∷ 0 ∷ c ∷ l) (set_apart cs n y)

pub apart_free : (n : ℕ) → apart (replicate n 0) ≡ replicate (8 * n) 0
apart_free zero = refl
apart_free (suc n) = let e : 8 * suc n ≡ suc (suc (suc (suc (suc (suc (suc (suc (8 * n)))))))) = omega arith in
    ap (λ (l : List ℕ). 0 ∷ 0 ∷ 0 ∷ 0 ∷ 0 ∷ 0 ∷ 0 ∷ 0 ∷ l) (apart_free n) ∙ ap (λ (k : ℕ). replicate k 0) (sym e)

-- the window's words, filled up with so many words of 0, are the words and then that many free cards, apart
pub filled_up : (ws old all : List ℕ) (n count : ℕ) → all ≡ take (length ws + 8 * n) old ++ replicate ((length ws + 8 * n) - count) 0 → old ≡ ws → count ≡ length ws → all ≡ ws ++ apart (replicate n 0)
filled_up ws old all n count filled is counted =
    let same : take (length ws + 8 * n) old ≡ ws = ap (take (length ws + 8 * n)) is ∙ take_all (length ws + 8 * n) ws (omega arith) in
    let more : (length ws + 8 * n) - count ≡ 8 * n = omega arith in
    filled ∙ (ap (λ (l : List ℕ). l ++ replicate ((length ws + 8 * n) - count) 0) same ∙ ap (λ (l : List ℕ). ws ++ l) (ap (λ (k : ℕ). replicate k 0) more ∙ sym (apart_free n)))
