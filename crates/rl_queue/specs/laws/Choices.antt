-- Choices by a test: what holds of both sides holds of the choice, and what the test of two numbers gives.
use Rattle.std.specs.Prelude.{ℕ, ◌≡◌, ◌≢◌, ◌<◌, ◌==◌, nat_lt, Bool, true, false, if◌then◌else◌, refl}
use Rattle.std.proofs.Common.{⊎_elim, arith}
use Rattle.std.proofs.lemmas.Bool.Decides.{eqb_tells, nat_tests}

-- what holds of both sides of a choice holds of what was chosen
pub choose : {X : Type 0} (P : X → Type 0) (b : Bool) (x y : X) → P x → P y → P (if b then x else y)
choose P true x y px py = px
choose P false x y px py = py

-- a number is the same as itself, and another isn't
pub same_test : (q : ℕ) → (q == q) ≡ true
same_test q = ⊎_elim (λ p. p.0) (λ p. absurd (p.1 refl)) (eqb_tells q q)

pub other_test : (k q : ℕ) → k ≢ q → (k == q) ≡ false
other_test k q ne = ⊎_elim (λ p. absurd (ne p.1)) (λ p. p.0) (eqb_tells k q)

-- the test of a number that is smaller
pub lt_test : (k n : ℕ) → k < n → nat_lt k n ≡ true
lt_test k n h = grind (arith, nat_tests)
