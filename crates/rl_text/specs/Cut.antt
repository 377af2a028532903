-- The pieces of a text between separators.
use Rattle.std.specs.Prelude.{◌≡◌, ℕ, ◌<◌, ◌+◌, List, [], ◌∷◌, length, Option, ◌==◌}
use Rattle.std.specs.Option.{MatchOption}
use Rattle.std.specs.List.{slice_split}
use Rattle.std.specs.Borrow.{Bor}

-- what stands between the separators; a text with no separator is one piece
abbrev pub pieces : ℕ → List ℕ → List (List ℕ)
pieces separator text = slice_split (λ byte. byte == separator) text

-- the first piece and what stands after its separator, or none where the text is one piece
abbrev pub IsCut : ℕ → List ℕ → Option (Bor (List ℕ) × Bor (List ℕ)) → Type 0
IsCut separator text parts = MatchOption parts (pieces separator text ≡ text ∷ []) (λ p.
    (pieces separator text ≡ p.0.now ∷ pieces separator p.1.now) × (length p.0.now + length p.1.now < length text))
