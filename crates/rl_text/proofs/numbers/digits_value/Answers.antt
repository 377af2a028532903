use Rattle.std.proofs.Common.{◌≡◌, ℕ, ◌<◌, ◌+◌, true, false, get_or, sym, ap, ◌∙◌, List, arith}
use borrow.Author.Count.{below_more}
use Rattle.std.specs.Char.{digit_value, is_ascii_digit}
use Rattle.std.specs.Int.{IsInRange}
use Rattle.std.specs.Str.Parse.{digits_value}
use Rattle.std.proofs.lemmas.List.{take_all}
use Rattle.std.proofs.lemmas.Bool.Decides.{nat_tests}
use Rattle.std.proofs.lemmas.Int.Digits.{digits_value_more}
use Rattle.std.proofs.lemmas.Str.Parse.{digit_at}
use Rattle.rl_text.proofs.Decimals.{digits_by_place, too_large}
use Rattle.rl_text.proofs.numbers.digits_value.Goals as goal

no_digit : (byte : ℕ) → is_ascii_digit byte ≡ false → IsInRange 48 57 byte → ⊥
no_digit byte fails range = grind (arith, nat_tests)

is_digit : (byte : ℕ) → is_ascii_digit byte ≡ true → IsInRange 48 57 byte
is_digit byte holds = grind (arith, nat_tests)

value_of_digit : (byte : ℕ) → IsInRange 48 57 byte → digit_value byte + 48 ≡ byte
value_of_digit byte range = grind (arith, nat_tests)

one_more : (bytes : List ℕ) (at : ℕ) → ((i : ℕ) → i < at → IsInRange 48 57 (get_or bytes i 0)) → IsInRange 48 57 (get_or bytes at 0) → (i : ℕ) → i < at + 1 → IsInRange 48 57 (get_or bytes i 0)
one_more bytes at before here = below_more (λ i. IsInRange 48 57 (get_or bytes i 0)) at before here

pub returns-then-not-is_ascii_digit : goal.returns-then-not-is_ascii_digit
returns-then-not-is_ascii_digit c = λ all. absurd (no_digit _ (sym c.if-not-is_ascii_digit.ensures.value) (digit_at c.args.word.now c.loop-byte.byte-index all c.loop-byte-test.true))

pub returns-in_err-checked_mul : goal.returns-in_err-checked_mul
returns-in_err-checked_mul c = rw c.from_residual.ensures (λ all.
    too_large c.args.word.now c.loop-byte.byte-index c.loop-byte-test.true (omega (arith, c.in_err-checked_mul.ensures, c.loop-byte.invariant.value)))

pub returns-in_err-value : goal.returns-in_err-value
returns-in_err-value c = rw c.from_residual-in_err-value.ensures (λ all.
    let digit = value_of_digit (get_or c.args.word.now c.loop-byte.byte-index 0) (is_digit _ (sym c.if-not-is_ascii_digit.ensures.value)) in
    too_large c.args.word.now c.loop-byte.byte-index c.loop-byte-test.true (omega (arith, digit, c.from.ensures, c.in_err-value.ensures, c.in_ok-checked_mul.ensures.1, c.loop-byte.invariant.value)))

pub loop-byte-preserved : goal.loop-byte-preserved
loop-byte-preserved c =
    let range = is_digit (get_or c.args.word.now c.loop-byte.byte-index 0) (sym c.if-not-is_ascii_digit.ensures.value) in
    let digit = value_of_digit (get_or c.args.word.now c.loop-byte.byte-index 0) range in
    record {
      value = omega (arith, digit, c.from.ensures, digits_value_more 10 c.args.word.now c.loop-byte.byte-index c.loop-byte-test.true, c.in_ok-value.ensures.1, c.in_ok-checked_mul.ensures.1, c.loop-byte.invariant.value);
      fits = omega (arith, c.in_ok-value.ensures.0, c.in_ok-value.ensures.1);
      digits = one_more c.args.word.now c.loop-byte.byte-index c.loop-byte.invariant.digits range;
    }

pub returns : goal.returns
returns c =
    let word = c.args.word.now in
    let value : c.loop-byte.value ≡ digits_value 10 word = c.loop-byte.invariant.value ∙ ap (digits_value 10) (take_all c.loop-byte.byte-index word c.loop-byte-test.false) in
    (digits_by_place.to word (λ i inside. c.loop-byte.invariant.digits i (omega arith)), value, c.loop-byte.invariant.fits)
