-- Tests and their outcomes.
use Rattle.std.proofs.Common.{◌≡◌, ◌≢◌, ℕ, Bool, true, false, not, ◌||◌, eqb, refl, eq-eqb}

-- a test is passed or not
pub either_way : {P : Type 0} (b : Bool) → (b ≡ true → P) → (b ≡ false → P) → P
either_way true passes fails = passes refl
either_way false passes fails = fails refl

pub or_false : (a b : Bool) → (a || b) ≡ false → (a ≡ false) × (b ≡ false)
or_false true b e = absurd cc
or_false false b e = (refl, e)

pub neither : (a b : Bool) → a ≡ false → b ≡ false → (a || b) ≡ false
neither true b e f = absurd cc
neither false b e f = f

pub negated : (b : Bool) → not b ≡ true → b ≡ false
negated true e = absurd cc
negated false e = refl

pub untrue : (b : Bool) → (b ≡ true → ⊥) → b ≡ false
untrue true h = absurd (h refl)
untrue false h = refl

-- one test can't have both outcomes
pub clash : (a b : Bool) → a ≡ b → a ≡ true → b ≡ false → ⊥
clash a b same passes fails = cc

pub differ : (a b : ℕ) → eqb a b ≡ false → a ≢ b
differ a b e same = clash (eqb a b) (eqb a b) refl (eq-eqb a b same) e
