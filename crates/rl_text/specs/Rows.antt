-- The lines of a text, and their words.
use Rattle.std.specs.Prelude.{ℕ, suc, ◌-◌, List, [], ◌∷◌, length, Bool, true, false, Option, ◌==◌, slice_get, if◌then◌else◌}
use Rattle.rl_text.specs.Cut.{pieces}
use Rattle.rl_text.specs.declared.line.Line.{Line}

-- a line: its number from 1, its bytes without the newline, and whether a newline ends it
pub record Row : Type 0 where
  pub number : ℕ
  pub text : List ℕ
  pub ended : Bool

-- a line of the code as a row
abbrev pub row_of : Line → Row
row_of line = record { number = line.number; text = line.text.now; ended = line.ended }

-- each piece but the last is ended by a newline, and the last one is a line where it has a byte
abbrev pub rows_of_pieces : ℕ → List (List ℕ) → List Row
rows_of_pieces n [] = []
rows_of_pieces n (piece ∷ []) = if length piece == 0 then [] else record { number = n; text = piece; ended = false } ∷ []
rows_of_pieces n (piece ∷ next ∷ more) = record { number = n; text = piece; ended = true } ∷ rows_of_pieces (suc n) (next ∷ more)

-- the lines of a text, numbered from n
unfoldable pub rows_from : ℕ → List ℕ → List Row
rows_from n text = rows_of_pieces n (pieces 10 text)

-- what is left to read: the lines, and how many came before them
pub record Left : Type 0 where
  pub rows : List Row
  pub read : ℕ

-- the words of a line, which stand between single spaces
unfoldable pub words : Row → List (List ℕ)
words row = pieces 32 row.text

-- word n of a line, counted from 1
abbrev pub word_at : Row → ℕ → Option (List ℕ)
word_at row n = slice_get (words row) (n - 1)
