-- What is read off the views of ranks, by the rank's number.
use Rattle.std.specs.Prelude.{ℕ, zero, suc, List, [], ◌∷◌}

-- what is read of rank m's view, and something else where there is no such rank
abbrev pub of_rank : {V X : Type 0} → (V → X) → X → List V → ℕ → X
of_rank read else [] m = else
of_rank read else (v ∷ vs) zero = read v
of_rank read else (v ∷ vs) (suc m) = of_rank read else vs m
