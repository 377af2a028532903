-- The lines and words of a text, by the numbers that a refusal gives them: both are counted from 1.
use Rattle.std.specs.Prelude.{ℕ, ◌-◌, List, [], ◌∷◌, drop, Option, Some, None}
use Rattle.rl_text.specs.Rows.{Row, rows_from, word_at}

-- the first of some lines
abbrev pub first_row : List Row → Option Row
first_row [] = None
first_row (row ∷ rows) = Some row

-- line l of a text, which follows l - 1 lines; none where the text has fewer
abbrev pub line_in : List ℕ → ℕ → Option Row
line_in text l = first_row (drop (l - 1) (rows_from 1 text))

-- word n of a line that may be missing
abbrev pub word_of : Option Row → ℕ → Option (List ℕ)
word_of None n = None
word_of (Some row) n = word_at row n

-- word n of line l of a text; none where the line has fewer words, or the text fewer lines
abbrev pub word_in : List ℕ → ℕ → ℕ → Option (List ℕ)
word_in text l n = word_of (line_in text l) n
