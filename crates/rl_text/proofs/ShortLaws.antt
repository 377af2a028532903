-- A line of two numbers at the front of a text, and a number of two digits.
use Rattle.std.proofs.Common.{◌≡◌, ℕ, ◌+◌, ◌*◌, ◌<◌, ◌/◌, ◌%◌, ◌-◌, ◌≤◌, ◌^◌, List, [], ◌∷◌, ◌++◌, length, get_or, take, drop, decimal, refl, sym, ap, ◌∙◌, append_assoc, arith}
use Rattle.std.proofs.lemmas.List.{take_all}
use Rattle.std.proofs.lemmas.Fmt.{decimal_digit, decimal_step}
use Rattle.rl_text.specs.Rows.{rows_from}
use Rattle.rl_text.specs.Short.{pair_text, pair_row}
use Rattle.rl_text.specs.Printing.{Writes, two_digits}
use Rattle.rl_text.proofs.TextLaws.{row-text}
use Rattle.rl_text.proofs.WordLaws.{plain-decimal}

pub pair-row : (n a b : ℕ) (text after : List ℕ) → a < 100 → b < 100 → text ≡ pair_text a b ++ 10 ∷ after → rows_from n text ≡ pair_row n a b ∷ rows_from (n + 1) after
pair-row n a b text after small few e =
    ap (rows_from n) e ∙ row-text n (decimal a ∷ decimal b ∷ []) after (omega arith, (plain-decimal a (omega arith), (plain-decimal b (omega arith), tt)))

-- a text is its first byte and what follows it
pub front-rest : (xs : List ℕ) → 1 ≤ length xs → xs ≡ get_or xs 0 0 ∷ take (length xs - 1) (drop 1 xs)
front-rest [] h = absurd (omega arith)
front-rest (x ∷ xs) h =
    let all : length xs ≤ length (x ∷ xs) - 1 = omega arith in
    ap (λ ys. x ∷ ys) (sym (take_all (length (x ∷ xs) - 1) xs all))

-- the spelling of a number of one digit, and of two
pub digit_text : (n : ℕ) → n < 10 → decimal n ≡ (48 + n) ∷ []
digit_text n small = decimal_digit n small

pub digits_text : (n : ℕ) → 10 ≤ n → n < 100 → decimal n ≡ (48 + n / 10) ∷ (48 + n % 10) ∷ []
digits_text n least small = decimal_step n least (omega arith) ∙ rw (decimal_digit (n / 10) (omega arith)) refl

-- a text that begins with a digit, and a number of two digits
pub one-digit : (value byte : ℕ) (text more : List ℕ) → value < 10 → byte ≡ 48 + value → text ≡ byte ∷ more → text ≡ decimal value ++ more
one-digit value byte text more small is e = rw (e, is, decimal_digit value small) refl

pub two-digits : (tens units first second : ℕ) → 0 < tens → tens < 10 → units < 10 → first ≡ 48 + tens → second ≡ 48 + units → decimal (tens * 10 + units) ≡ first ∷ second ∷ []
two-digits tens units first second some small few is also =
    let n = tens * 10 + units in
    let front : n / 10 ≡ tens = omega arith in
    let last : n % 10 ≡ units = omega arith in
    rw (is, also, decimal_step n (omega arith) (omega arith), front, last, decimal_digit tens small) refl

-- the spelling of a number of three digits or more ends in the two digits of its rest by 100
pub hundreds_text : (n : ℕ) → 100 ≤ n → n < 2 ^ 64 → decimal n ≡ decimal (n / 100) ++ two_digits (n % 100)
hundreds_text n least fits =
    let tens : decimal n ≡ decimal (n / 10) ++ (48 + n % 10) ∷ [] = decimal_step n (omega arith) fits in
    let front : decimal (n / 10) ≡ decimal (n / 10 / 10) ++ (48 + n / 10 % 10) ∷ [] = decimal_step (n / 10) (omega arith) (omega arith) in
    let whole : n / 10 / 10 ≡ n / 100 = omega arith in
    let first : n / 10 % 10 ≡ n % 100 / 10 = omega arith in
    let second : n % 10 ≡ n % 100 % 10 = omega arith in
    rw (tens, front, whole, first, second) (append_assoc (decimal (n / 100)) ((48 + n % 100 / 10) ∷ []) ((48 + n % 100 % 10) ∷ []))

-- a number of three digits or more was written: its hundreds, and then its two last digits
pub writes-hundreds : (old middle new : List ℕ) (at place end n : ℕ) → 100 ≤ n → n < 2 ^ 64 → Writes old middle at place (decimal (n / 100)) → Writes middle new place end (two_digits (n % 100)) →
    Writes old new at end (decimal n)
writes-hundreds old middle new at place end n least fits front last = (
  last.0 ∙ ap (λ xs. xs ++ two_digits (n % 100)) front.0 ∙ append_assoc (take at old) (decimal (n / 100)) (two_digits (n % 100)) ∙ ap (λ xs. take at old ++ xs) (sym (hundreds_text n least fits)),
  last.1 ∙ front.1,
)

-- a number with one digit more
pub more-digits : (value last byte : ℕ) (text rest more : List ℕ) → 0 < value → value < 1000000000000000000 → last < 10 → byte ≡ 48 + last → text ≡ decimal value ++ rest → rest ≡ byte ∷ more →
    text ≡ decimal (value * 10 + last) ++ more
more-digits value last byte text rest more some small few is e front =
    let n = value * 10 + last in
    let whole : n / 10 ≡ value = omega arith in
    let unit : n % 10 ≡ last = omega arith in
    e ∙ rw (front, is, decimal_step n (omega arith) (omega arith), whole, unit) (sym (append_assoc (decimal value) ((48 + last) ∷ []) more))
