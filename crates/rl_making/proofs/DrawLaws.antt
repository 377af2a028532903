-- Several things drawn one after the other: the last of them, how many there are, and what holds of each.
use Rattle.std.proofs.Common.{◌≡◌, ℕ, zero, suc, List, [], ◌∷◌, ◌++◌, length, refl, ap}
use Rattle.std.specs.List.{AllByRecursion}
use Rattle.rl_making.specs.Generate.{Draws, several}

module _ {X : Type 0} where
  -- one more is drawn after all the others
  pub several-more : (one : Draws X) (n state : ℕ) → several one (suc n) state ≡ ((several one n state).0 ++ (one (several one n state).1).0 ∷ [], (one (several one n state).1).1)
  several-more one zero state = refl
  several-more one (suc n) state = ap (λ (drawn : List X × ℕ). ((one state).0 ∷ drawn.0, drawn.1)) (several-more one n (one state).1)

  pub length-several : (one : Draws X) (n state : ℕ) → length (several one n state).0 ≡ n
  length-several one zero state = refl
  length-several one (suc n) state = ap suc (length-several one n (one state).1)

  pub each-of-several : (P : X → Type 0) (one : Draws X) → ((state : ℕ) → P (one state).0) → (n state : ℕ) → AllByRecursion P (several one n state).0
  each-of-several P one holds zero state = tt
  each-of-several P one holds (suc n) state = (holds state, each-of-several P one holds n (one state).1)
