-- The spelling of a text, as lines of words. It knows nothing of reading.
use Rattle.std.specs.Prelude.{ℕ, List, [], ◌∷◌, ◌++◌, flat_map, decimal}
use Rattle.std.specs.List.{join_with_byte}
use Rattle.rl_text.specs.declared.causes.Refusal.{Refusal}
use Rattle.rl_text.specs.Causes.{why_name}

-- a line: its words between single spaces, and a newline
abbrev pub line_text : List (List ℕ) → List ℕ
line_text words = join_with_byte 32 words ++ 10 ∷ []

-- a text: its lines one after the other
abbrev pub text_of : List (List (List ℕ)) → List ℕ
text_of lines = flat_map line_text lines

-- a refusal: its line, its word and the name of its cause
abbrev pub refusal_words : Refusal → List (List ℕ)
refusal_words refusal = decimal refusal.line ∷ decimal refusal.word ∷ why_name refusal.why ∷ []
