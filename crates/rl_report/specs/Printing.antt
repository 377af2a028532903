-- Words with a space before each, as printers append them.
use Rattle.std.specs.Prelude.{ℕ, List, ◌∷◌, flat_map}

abbrev pub spaced : List (List ℕ) → List ℕ
spaced words = flat_map (λ w. 32 ∷ w) words
