-- Reading the words of a line one after the other.
use Rattle.std.specs.Prelude.{ℕ, ◌+◌, ◌-◌, List, [], drop, Option, Some, None}
use Rattle.std.specs.Borrow.{Bor}
use Rattle.rl_text.specs.Cut.{pieces}
use Rattle.rl_text.specs.Rows.{Row, words}

-- the words of a line that are still to be read: it stands before word `next`, counted from 1
pub record TheLineWords : Type 0 where
  pub row : Row
  pub next : ℕ

-- past the next word
abbrev pub stepped : TheLineWords → TheLineWords
stepped w = record { row = w.row; next = w.next + 1 }

-- the words from word n on
abbrev pub words_from : Row → ℕ → List (List ℕ)
words_from row n = drop (n - 1) (words row)

-- the words in the bytes that are left, or none where no bytes are left
abbrev pub words_left : Option (Bor (List ℕ)) → List (List ℕ)
words_left None = []
words_left (Some rest) = pieces 32 rest.now
