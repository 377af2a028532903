-- Lines of two numbers.
use Rattle.std.specs.Prelude.{ℕ, List, [], ◌∷◌, true, decimal}
use Rattle.std.specs.List.{join_with_byte}
use Rattle.rl_text.specs.Rows.{Row}

-- two numbers with a space between them
abbrev pub pair_text : ℕ → ℕ → List ℕ
pair_text a b = join_with_byte 32 (decimal a ∷ decimal b ∷ [])

-- the line with this number that has just the two
abbrev pub pair_row : ℕ → ℕ → ℕ → Row
pair_row n a b = record { number = n; text = pair_text a b; ended = true }
