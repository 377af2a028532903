-- Tests in an order, and what is told of the first that fails.
use Rattle.std.specs.Prelude.{◌≡◌, ◌⊎◌, ℕ, ◌<◌, List, slice_get, Option, Some, None}

-- Some tests in an order: what it is to pass them all, and else to be told this of the first that fails.
pub record Tests (F : Type 0) : Type 1 where
  pub pass : Type 0
  pub fails_at : F → Type 0

-- what is told of some tests: nothing where all are passed, else the first fault
abbrev pub IsFirstOf : {F : Type 0} → Tests F → Option F → Type 0
IsFirstOf T None = T.pass
IsFirstOf T (Some f) = T.fails_at f

-- one test, and what is told where it fails
abbrev pub one : {F : Type 0} → F → Type 0 → Tests F
one f P = record { pass = P; fails_at = λ g. (g ≡ f) × (P → ⊥) }

-- the tests of a, and then those of b
infixr 10 ◌and_then◌
abbrev pub ◌and_then◌ : {F : Type 0} → Tests F → Tests F → Tests F
a and_then b = record { pass = a.pass × b.pass; fails_at = λ f. a.fails_at f ⊎ (a.pass × b.fails_at f) }

-- those with a number below n are passed
abbrev pub PassBelow : {F : Type 0} → (ℕ → Tests F) → ℕ → Type 0
PassBelow c n = (i : ℕ) → i < n → (c i).pass

-- the tests of number 0, then of 1, and so on below n
abbrev pub each : {F : Type 0} → ℕ → (ℕ → Tests F) → Tests F
each n c = record { pass = PassBelow c n; fails_at = λ f. (i : ℕ) × (i < n) × PassBelow c i × (c i).fails_at f }

-- the tests of the element at a place, if there is one
abbrev pub where_there : {F X : Type 0} → List X → ℕ → (X → Tests F) → Tests F
where_there {X = X} xs i c =
    record { pass = (x : X) → slice_get xs i ≡ Some x → (c x).pass; fails_at = λ f. (x : X) × (slice_get xs i ≡ Some x) × (c x).fails_at f }

-- tests at a place, which is told too
abbrev pub at_place : {F : Type 0} → ℕ → Tests F → Tests (ℕ × F)
at_place p T = record { pass = T.pass; fails_at = λ f. (f.0 ≡ p) × T.fails_at f.1 }
