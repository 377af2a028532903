-- A word that is a path: what is read is spelled so, and what is spelled so is read.
use Rattle.std.proofs.Common.{◌≡◌, ℕ, zero, suc, ◌-◌, ◌^◌, ◌<◌, ◌≤◌, Bool, true, false, not, ◌&&◌, cond, eqb, leb, List, [], ◌∷◌, ◌++◌, length, map, take, replicate, decimal, Option, Some, None, Ok, refl, sym, ap, subst, ◌∙◌, arith}
use Rattle.std.specs.List.{AllByRecursion, list_all, join_with_byte}
use Rattle.std.specs.Str.Parse.{AllDigits}
use Rattle.std.proofs.Math.Seq.{take-append_seam}
use Rattle.std.proofs.lemmas.Bool.{leb-true, le-leb, ne_eqb, eqb-true, eq-eqb}
use Rattle.std.proofs.lemmas.Fmt.{digits_decimal}
use Rattle.std.proofs.lemmas.List.{length-map}
use Rattle.std.proofs.lemmas.List.Folds.{list_all-append}
use Rattle.std.proofs.lemmas.List.Splits.{join_with_byte-slice_split}
use Rattle.std.proofs.lemmas.Str.Parse.{digit_at}
use Rattle.rl_text.specs.declared.causes.Why.TheVariants.{Range}
use Rattle.rl_text.specs.Cut.{pieces}
use Rattle.rl_text.specs.Rows.{Row, word_at}
use Rattle.rl_text.specs.Reading.{needed_at, refusal_at}
use Rattle.rl_text.proofs.Decimals.{own}
use Rattle.rl_text.proofs.FromLaws.{from_bind}
use Rattle.rl_text.proofs.TextLaws.{HasNo, pieces-join, is_plain}
use Rattle.rl_text.proofs.WordLaws.{test_ok, needed-takes, needed-again, plain-decimal}
use Rattle.rl_place.specs.declared.limits.TheConstants.{MOST_PART}
use Rattle.rl_place.specs.declared.path.Path.{Path}
use Rattle.rl_place.specs.Paths.{IsPath, path_of, path_word, numbers_in, numbers_of, filled, parts_of, or_wrong, path_at}
use Rattle.rl_place.proofs.PathParts.{numbers-spelled, numbers-decimal}

-- ---- the numbers and the zeros after them

pub record Filled (levels : ℕ) (read : Option (List ℕ)) (parts : List ℕ) : Type 0 where
  pub numbers : List ℕ
  pub are : read ≡ Some numbers
  pub count : length numbers ≡ levels
  pub parts_are : parts ≡ numbers ++ replicate (3 - levels) 0

filled-is : (levels : ℕ) (read : Option (List ℕ)) (parts : List ℕ) → filled levels read ≡ Some parts → Filled levels read parts
filled-is levels None parts e = absurd cc
filled-is levels (Some numbers) parts e = by (eqb (length numbers) levels) refl e
  where
    by : (b : Bool) → eqb (length numbers) levels ≡ b → cond b (Some (numbers ++ replicate (3 - levels) 0)) None ≡ Some parts → Filled levels (Some numbers) parts
    by true same e = record { numbers = numbers; are = refl; count = eqb-true _ _ same; parts_are = cc }
    by false other e = absurd cc

filled-again : (levels : ℕ) (numbers : List ℕ) → length numbers ≡ levels → filled levels (Some numbers) ≡ Some (numbers ++ replicate (3 - levels) 0)
filled-again levels numbers count = rw (count, eq-eqb levels levels refl) refl

pub first_numbers : (levels : ℕ) (numbers : List ℕ) → length numbers ≡ levels → take levels (numbers ++ replicate (3 - levels) 0) ≡ numbers
first_numbers levels numbers count = subst (λ (n : ℕ). take n (numbers ++ replicate (3 - levels) 0) ≡ numbers) count (take-append_seam numbers (replicate (3 - levels) 0))

-- ---- the limit of the numbers

small-numbers : (numbers zeros : List ℕ) → list_all (λ part. leb part MOST_PART) (numbers ++ zeros) ≡ true → AllByRecursion (λ part. part ≤ MOST_PART) numbers
small-numbers [] zeros e = tt
small-numbers (n ∷ numbers) zeros e = let p = both (leb n MOST_PART) (list_all (λ part. leb part MOST_PART) (numbers ++ zeros)) e in (leb-true n MOST_PART p.0, small-numbers numbers zeros p.1)
  where
    both : (a b : Bool) → (a && b) ≡ true → (a ≡ true) × (b ≡ true)
    both true true e = (refl, refl)
    both true false e = absurd cc
    both false b e = absurd cc

small-zeros : (k : ℕ) → list_all (λ part. leb part MOST_PART) (replicate k 0) ≡ true
small-zeros zero = refl
small-zeros (suc k) = small-zeros k

numbers-small : (numbers : List ℕ) (k : ℕ) → AllByRecursion (λ part. part ≤ MOST_PART) numbers → list_all (λ part. leb part MOST_PART) (numbers ++ replicate k 0) ≡ true
numbers-small [] k h = small-zeros k
numbers-small (n ∷ numbers) k h = rw (le-leb n MOST_PART h.0) (numbers-small numbers k h.1)

pub all-fit : (numbers : List ℕ) → AllByRecursion (λ part. part ≤ MOST_PART) numbers → AllByRecursion (λ n. n < 2 ^ 64) numbers
all-fit [] h = tt
all-fit (n ∷ numbers) h = (omega (arith, h.0), all-fit numbers h.1)

-- ---- the word

path_is : (levels : ℕ) (numbers parts : List ℕ) → length numbers ≡ levels → parts ≡ numbers ++ replicate (3 - levels) 0 → ◌≡◌ {A = Path} (record { len = levels; parts = parts }) (path_of numbers)
path_is levels numbers parts count e = rw (e, count) refl

pub record PathTaken (row : Row) (n levels : ℕ) (path : Path) : Type 0 where
  pub proper : IsPath levels path
  pub word : word_at row n ≡ Some (path_word path)

pub path-takes : (row : Row) (n levels : ℕ) (path : Path) → path_at row n levels ≡ Ok path → PathTaken row n levels path
unfolding path_at parts_of
path-takes row n levels path e =
    from_bind (needed_at row n) _ path e (λ word there e1. by word (parts_of levels word) there refl e1)
  where
    made : (word : List ℕ) (parts : List ℕ) → needed_at row n ≡ Ok word → parts_of levels word ≡ Some parts → list_all (λ part. leb part MOST_PART) parts ≡ true → PathTaken row n levels (record { len = levels; parts = parts })
    made word parts there is small =
        let f = filled-is levels (numbers_of (pieces 46 word)) parts is in
        let s = numbers-spelled (pieces 46 word) f.numbers f.are in
        let of : ◌≡◌ {A = Path} (record { len = levels; parts = parts }) (path_of f.numbers) = path_is levels f.numbers parts f.count f.parts_are in
        let spelled : word ≡ join_with_byte 46 (map decimal f.numbers) = sym (join_with_byte-slice_split 46 word) ∙ ap (join_with_byte 46) s.1 in
        let first : take levels parts ≡ f.numbers = ap (take levels) f.parts_are ∙ first_numbers levels f.numbers f.count in
        record {
          proper = record { numbers = f.numbers; count = f.count; small = small-numbers f.numbers (replicate (3 - levels) 0) (rw f.parts_are at small); is = of };
          word = needed-takes row n word there ∙ ap (λ (w : List ℕ). Some w) (spelled ∙ ap (λ (ns : List ℕ). join_with_byte 46 (map decimal ns)) (sym first));
        }

    by : (word : List ℕ) (read : Option (List ℕ)) → needed_at row n ≡ Ok word → parts_of levels word ≡ read → or_wrong row n levels read ≡ Ok path → PathTaken row n levels path
    by word None there is e = absurd cc
    by word (Some parts) there is e =
        let t = test_ok (list_all (λ part. leb part MOST_PART) parts) (refusal_at row n Range) (record { len = levels; parts = parts }) path e in
        subst (λ (p : Path). PathTaken row n levels p) t.1 (made word parts there is t.0)

-- ---- and back

digits_no_dot : (ds : List ℕ) → AllDigits 10 ds → HasNo 46 ds
digits_no_dot [] h = tt
digits_no_dot (d ∷ ds) h = let digit = digit_at (d ∷ ds) 0 h (omega arith) in (ne_eqb d 46 (λ e. omega (arith, digit.0, e)), digits_no_dot ds h.1)

-- no number's digits have a dot
pub no_dots : (numbers : List ℕ) → AllByRecursion (λ n. n < 2 ^ 64) numbers → AllByRecursion (HasNo 46) (map decimal numbers)
no_dots [] h = tt
no_dots (n ∷ numbers) h = (digits_no_dot (decimal n) (digits_decimal own n h.0), no_dots numbers h.1)

pub numbers_in-path : (levels : ℕ) (path : Path) (proper : IsPath levels path) → numbers_in path ≡ proper.numbers
numbers_in-path levels path proper = ap numbers_in proper.is ∙ first_numbers (length proper.numbers) proper.numbers refl

pub path-again : (row : Row) (n levels : ℕ) (path : Path) → 1 ≤ levels → IsPath levels path → word_at row n ≡ Some (path_word path) → path_at row n levels ≡ Ok path
unfolding path_at parts_of
path-again row n levels path some proper e =
    let numbers = proper.numbers in
    let fits = all-fit numbers proper.small in
    let spelled : path_word path ≡ join_with_byte 46 (map decimal numbers) = ap (λ (ns : List ℕ). join_with_byte 46 (map decimal ns)) (numbers_in-path levels path proper) in
    let cut : pieces 46 (join_with_byte 46 (map decimal numbers)) ≡ map decimal numbers = pieces-join 46 (map decimal numbers) (omega (arith, some, proper.count, length-map numbers decimal)) (no_dots numbers fits) refl in
    let read : numbers_of (pieces 46 (path_word path)) ≡ Some numbers = ap (λ (w : List ℕ). numbers_of (pieces 46 w)) spelled ∙ ap numbers_of cut ∙ numbers-decimal numbers fits in
    let same : ◌≡◌ {A = Path} (record { len = levels; parts = numbers ++ replicate (3 - levels) 0 }) path = sym (proper.is ∙ rw proper.count refl) in
    rw (needed-again row n (path_word path) e, read, filled-again levels numbers proper.count, numbers-small numbers (3 - levels) proper.small) (ap (λ (p : Path). Ok p) same)

-- ---- its word is plain

plain-dots : (ws : List (List ℕ)) → AllByRecursion (λ w. is_plain w ≡ true) ws → is_plain (join_with_byte 46 ws) ≡ true
plain-dots [] h = refl
plain-dots (w ∷ []) h = h.0
plain-dots (w ∷ v ∷ ws) h = list_all-append (λ b. not (eqb b 32) && not (eqb b 10)) w (46 ∷ join_with_byte 46 (v ∷ ws)) ∙ rw (h.0, plain-dots (v ∷ ws) h.1) refl

pub plain-numbers : (numbers : List ℕ) → AllByRecursion (λ n. n < 2 ^ 64) numbers → AllByRecursion (λ w. is_plain w ≡ true) (map decimal numbers)
plain-numbers [] h = tt
plain-numbers (n ∷ numbers) h = (plain-decimal n h.0, plain-numbers numbers h.1)

pub plain-path : (levels : ℕ) (path : Path) → IsPath levels path → is_plain (path_word path) ≡ true
plain-path levels path proper =
    ap (λ (ns : List ℕ). is_plain (join_with_byte 46 (map decimal ns))) (numbers_in-path levels path proper) ∙ plain-dots (map decimal proper.numbers) (plain-numbers proper.numbers (all-fit proper.numbers proper.small))
