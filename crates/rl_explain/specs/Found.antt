-- What is found at a place of a text, as a word.
use Rattle.std.specs.Prelude.{ℕ, List, Option, Some, None}
use Rattle.rl_explain.specs.declared.found.Found.{Found}
use Rattle.rl_explain.specs.declared.found.Found.TheVariants.{Word, LineEnd, WholeLine, FileEnd, TooMany}

-- the word that is found, if one is
abbrev pub found_word : Found → Option (List ℕ)
found_word (Word word line) = Some word.now
found_word LineEnd = None
found_word (WholeLine line) = None
found_word FileEnd = None
found_word TooMany = None
