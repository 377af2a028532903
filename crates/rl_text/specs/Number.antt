-- The number that a word spells.
use Rattle.std.specs.Prelude.{◌≡◌, ◌≢◌, ℕ, ◌<◌, ◌≤◌, ◌^◌, List, length, slice_index, Option, Some, None, ◌&&◌, nat_lt, decimal, if◌then◌else◌}
use Rattle.std.specs.Option.{MatchOption}
use Rattle.std.specs.Str.{bytes_eq}
use Rattle.std.specs.Str.Parse.{AllDigits, digits_value}

-- the number below 2 ^ 64 whose decimal spelling is the word, if there is one; printing and reading share this meaning
unfoldable pub number_of : List ℕ → Option ℕ
number_of word =
    let n = digits_value 10 word in
    if bytes_eq word (decimal n) && nat_lt n (2 ^ 64) then Some n else None

-- the same as a fact: the word is the spelling of the number that was read, or of no number at all
abbrev pub IsNumberOf : List ℕ → Option ℕ → Type 0
IsNumberOf word read = MatchOption read ((n : ℕ) → n < 2 ^ 64 → word ≢ decimal n) (λ n. (n < 2 ^ 64) × (word ≡ decimal n))

-- the word begins neither with a plus nor with a zero that more digits follow
abbrev pub BeginsAsNumber : List ℕ → Type 0
BeginsAsNumber word = (slice_index word 0 ≢ 43) × (slice_index word 0 ≡ 48 → length word ≡ 1)

-- the value that a word of digits writes, leading zeros or not; `None` where a byte is no digit or the value is 2 ^ 64 or more
abbrev pub IsValueOf : List ℕ → Option ℕ → Type 0
IsValueOf word read = MatchOption read (AllDigits 10 word → 2 ^ 64 ≤ digits_value 10 word) (λ n. AllDigits 10 word × (n ≡ digits_value 10 word) × (n < 2 ^ 64))
