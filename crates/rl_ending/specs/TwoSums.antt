-- What is left as two sums: how far each rank is from its end, and small change beside.
use Rattle.std.specs.Prelude.{ℕ, ◌+◌, ◌*◌, List, length, sum_by}

-- the small change is so much a rank at most, so a rank that is less far pays for the change of all ranks
abbrev pub two_sums : {X : Type 0} → ℕ → (X → ℕ) → (X → ℕ) → List X → ℕ
two_sums change far near views = (1 + change * length views) * sum_by far views + sum_by near views
