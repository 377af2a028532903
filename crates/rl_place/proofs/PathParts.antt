-- The numbers of a path, from its word and back.
use Rattle.std.proofs.Common.{◌≡◌, ℕ, suc, ◌<◌, List, [], ◌∷◌, length, ◌^◌, map, decimal, Option, Some, None, refl, sym, ap, subst, ◌∙◌}
use Rattle.std.specs.List.{AllByRecursion}
use Rattle.rl_text.proofs.Decimals.{number_of-spelled, number_of-decimal}
use Rattle.std.proofs.lemmas.Bool.{ne_eqb}
use Rattle.rl_text.specs.Number.{number_of}
use Rattle.rl_place.specs.Paths.{with_first, numbers_of, filled}

with_first-length : (n : Option ℕ) (o : Option (List ℕ)) (ns : List ℕ) → with_first n o ≡ Some ns → (ms : List ℕ) × (o ≡ Some ms) × (length ns ≡ suc (length ms))
with_first-length None o ns e = absurd cc
with_first-length (Some n) None ns e = absurd cc
with_first-length (Some n) (Some ms) ns e = let same : n ∷ ms ≡ ns = cc in (ms, refl, sym (ap length same))

pub length-numbers_of : (ps : List (List ℕ)) (ns : List ℕ) → numbers_of ps ≡ Some ns → length ns ≡ length ps
length-numbers_of [] ns e = let same : ◌≡◌ {A = List ℕ} [] ns = cc in sym (ap length same)
length-numbers_of (p ∷ ps) ns e =
    let w = with_first-length (number_of p) (numbers_of ps) ns e in
    w.2 ∙ ap suc (length-numbers_of ps w.0 w.1)

other_count : (levels count : ℕ) (o : Option (List ℕ)) → ((ns : List ℕ) → o ≡ Some ns → length ns ≡ count) → (count ≡ levels → ⊥) → filled levels o ≡ None
other_count levels count None h never = refl
other_count levels count (Some ns) h never = rw (ne_eqb (length ns) levels (λ e. never (sym (h ns refl) ∙ e))) refl

pub other_parts : (levels : ℕ) (ps : List (List ℕ)) → (length ps ≡ levels → ⊥) → filled levels (numbers_of ps) ≡ None
other_parts levels ps never = other_count levels (length ps) (numbers_of ps) (length-numbers_of ps) never

with_first-is : (n : Option ℕ) (o : Option (List ℕ)) (ns : List ℕ) → with_first n o ≡ Some ns → (k : ℕ) × (ms : List ℕ) × (n ≡ Some k) × (o ≡ Some ms) × (ns ≡ k ∷ ms)
with_first-is None o ns e = absurd cc
with_first-is (Some k) None ns e = absurd cc
with_first-is (Some k) (Some ms) ns e = (k, ms, refl, refl, cc)

both : (p q : List ℕ) (ps qs : List (List ℕ)) → p ≡ q → ps ≡ qs → p ∷ ps ≡ q ∷ qs
both p q ps qs e f = cc

-- numbers that are read are spelled so
pub numbers-spelled : (ps : List (List ℕ)) (ns : List ℕ) → numbers_of ps ≡ Some ns → AllByRecursion (λ n. n < 2 ^ 64) ns × (ps ≡ map decimal ns)
numbers-spelled [] ns e = let same : ◌≡◌ {A = List ℕ} [] ns = cc in subst (λ (ms : List ℕ). AllByRecursion (λ n. n < 2 ^ 64) ms × ([] ≡ map decimal ms)) same (tt, refl)
numbers-spelled (p ∷ ps) ns e =
    let w = with_first-is (number_of p) (numbers_of ps) ns e in
    let first = number_of-spelled p w.0 w.2 in
    let others = numbers-spelled ps w.1 w.3 in
    subst (λ (ms : List ℕ). AllByRecursion (λ n. n < 2 ^ 64) ms × (p ∷ ps ≡ map decimal ms)) (sym w.4) ((first.0, others.0), both p (decimal w.0) ps (map decimal w.1) first.1 others.1)

-- and numbers that are spelled so are read
pub numbers-decimal : (ns : List ℕ) → AllByRecursion (λ n. n < 2 ^ 64) ns → numbers_of (map decimal ns) ≡ Some ns
numbers-decimal [] h = refl
numbers-decimal (n ∷ ns) h = rw (number_of-decimal n h.0, numbers-decimal ns h.1) refl
