-- Reading a text from its first line on, and a line from its first word on. The first fault ends it.
use Rattle.std.specs.Prelude.{◌≡◌, ℕ, ◌+◌, List, [], ◌∷◌, codes, Bool, false, Option, Some, None, Result, Ok, Err, nat_lt, if◌then◌else◌}
use Rattle.std.specs.Str.{bytes_eq}
use Rattle.rl_text.specs.declared.causes.Why.{Why}
use Rattle.rl_text.specs.declared.causes.Why.TheVariants.{Word, Number, Range, Repeat, Missing, Extra, Order, NoEnd, Version}
use Rattle.rl_text.specs.declared.causes.Refusal.{Refusal}
use Rattle.rl_text.specs.declared.failing.TextErr.{TextErr}
use Rattle.rl_text.specs.declared.failing.TextErr.TheVariants.{Refused, Memory}
use Rattle.rl_text.specs.Number.{number_of}
use Rattle.rl_text.specs.Rows.{Row, Left, word_at}

-- one step of reading after the other: the first error ends the reading
infixl 10 ◌>>=◌
abbrev pub ◌>>=◌ : {A B E : Type 0} → Result A E → (A → Result B E) → Result B E
(Ok x) >>= f = f x
(Err e) >>= f = Err e

-- what a function returned is what reading gives, unless memory ran out
abbrev pub Gives : {X : Type 0} → Result X TextErr → Result X Refusal → Type 0
Gives (Ok x) read = read ≡ Ok x
Gives (Err (Refused refusal)) read = read ≡ Err refusal
Gives (Err Memory) read = Unit {0}

-- what a function returned, where a clause sees its value by a view
abbrev pub seen : {X Y E : Type 0} → (X → Y) → Result X E → Result Y E
seen view (Ok x) = Ok (view x)
seen view (Err e) = Err e

-- the fault that ended a reading, if one did
abbrev pub fault_of : {X : Type 0} → Result X Refusal → Option Refusal
fault_of (Ok value) = None
fault_of (Err refusal) = Some refusal

-- the refusal of word n of a line, or of the whole line at 0
abbrev pub refusal_at : Row → ℕ → Why → Refusal
refusal_at row n why = record { line = row.number; word = n; why = why }

-- ---- the words of a line

abbrev pub or_missing : Row → ℕ → Option (List ℕ) → Result (List ℕ) Refusal
or_missing row n None = Err (refusal_at row n Missing)
or_missing row n (Some word) = Ok word

-- word n, which has to be there
unfoldable pub needed_at : Row → ℕ → Result (List ℕ) Refusal
needed_at row n = or_missing row n (word_at row n)

-- word n is this one
unfoldable pub fixed_at : Row → ℕ → List ℕ → Why → Result (Unit {0}) Refusal
fixed_at row n text why = do
  word ← needed_at row n
  if bytes_eq word text then Ok tt else Err (refusal_at row n why)

abbrev pub or_number : Row → ℕ → Option ℕ → Result ℕ Refusal
or_number row n None = Err (refusal_at row n Number)
or_number row n (Some k) = Ok k

-- word n is a number
unfoldable pub number_at : Row → ℕ → Result ℕ Refusal
number_at row n = do
  word ← needed_at row n
  or_number row n (number_of word)

-- word n is a number below a limit
unfoldable pub below_at : Row → ℕ → ℕ → Result ℕ Refusal
below_at row n limit = do
  k ← number_at row n
  if nat_lt k limit then Ok k else Err (refusal_at row n Range)

-- word n is a number from low to high
unfoldable pub between_at : Row → ℕ → ℕ → ℕ → Result ℕ Refusal
between_at row n low high = do
  k ← below_at row n (high + 1)
  if nat_lt k low then Err (refusal_at row n Range) else Ok k

-- word n, read as the number k, is the next number of a count: a lower one came before, a higher one comes too early
abbrev pub next_at : Row → ℕ → ℕ → ℕ → Result (Unit {0}) Refusal
next_at row n k next =
    if nat_lt k next then Err (refusal_at row n Repeat) else (if nat_lt next k then Err (refusal_at row n Order) else Ok tt)

abbrev pub or_extra : Row → ℕ → Option (List ℕ) → Result (Unit {0}) Refusal
or_extra row n None = Ok tt
or_extra row n (Some word) = Err (refusal_at row n Extra)

-- the line has no word n
unfoldable pub no_word_at : Row → ℕ → Result (Unit {0}) Refusal
no_word_at row n = or_extra row n (word_at row n)

abbrev pub starts_with_word : List ℕ → Option (List ℕ) → Bool
starts_with_word text None = false
starts_with_word text (Some word) = bytes_eq word text

-- the first word of the line is this one
unfoldable pub begins : Row → List ℕ → Bool
begins row text = starts_with_word text (word_at row 1)

-- the first line of a file: its name, and the version 1
unfoldable pub header_at : Row → List ℕ → Result (Unit {0}) Refusal
header_at row name = do
  name_there ← fixed_at row 1 name Word
  version_there ← fixed_at row 2 (codes "1") Version
  no_word_at row 3

-- ---- the lines of a text

-- a line that a newline ends
unfoldable pub whole : Row → Result Row Refusal
whole row = if row.ended then Ok row else Err (refusal_at row 0 NoEnd)

-- where the text ends before its last line: at the line after those that were read
abbrev pub no_end : ℕ → Refusal
no_end read = record { line = read + 1; word = 0; why = NoEnd }

-- the next line, which has to be there and to be ended, and the lines after it
unfoldable pub next_row : ℕ → List Row → Result (Row × List Row) Refusal
next_row read [] = Err (no_end read)
next_row read (row ∷ rows) = do
  there ← whole row
  Ok (there, rows)

-- the next line, and what is left after it
unfoldable pub next_left : Left → Result (Row × Left) Refusal
next_left left = do
  next ← next_row left.read left.rows
  Ok (next.0, record { rows = next.1; read = left.read + 1 })

-- the first word of the next line is this one
abbrev pub next_begins : List Row → List ℕ → Bool
next_begins [] text = false
next_begins (row ∷ rows) text = begins row text

-- what a reader returned, and what it left to be read, as lines or the number of a word, are what reading gives
abbrev pub Leaves : {X L : Type 0} → Result X Refusal → L → Result (X × L) Refusal → Type 0
Leaves (Ok x) left read = read ≡ Ok (x, left)
Leaves (Err refusal) left read = read ≡ Err refusal

-- the same of a reader that takes memory, unless memory ran out
abbrev pub GivesLeaving : {X L : Type 0} → Result X TextErr → L → Result (X × L) Refusal → Type 0
GivesLeaving (Ok x) left read = read ≡ Ok (x, left)
GivesLeaving (Err (Refused refusal)) left read = read ≡ Err refusal
GivesLeaving (Err Memory) left read = Unit {0}

-- no line follows
unfoldable pub no_row : List Row → Result (Unit {0}) Refusal
no_row [] = Ok tt
no_row (row ∷ rows) = Err (refusal_at row 0 Extra)

-- the line after which nothing follows
unfoldable pub end_at : Row → List Row → Result (Unit {0}) Refusal
end_at row rows = do
  alone ← no_word_at row 2
  no_row rows
