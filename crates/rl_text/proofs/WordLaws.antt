-- What was read from a word is the word, and the word is read again.
use Rattle.std.proofs.Common.{◌≡◌, ℕ, zero, suc, ◌+◌, ◌^◌, ◌<◌, ◌≤◌, Bool, true, false, cond, ltb, List, [], ◌∷◌, get_or, drop, codes, decimal, Option, Some, None, Result, Ok, Err, ◌⊎◌, inl, inr, refl, ap, subst, ◌∙◌, arith}
use Rattle.std.specs.List.{slice_get, join_with_byte}
use Rattle.std.specs.Str.{bytes_eq}
use Rattle.std.specs.Str.Parse.{AllDigits}
use Rattle.std.proofs.lemmas.Bool.{ltb-true, ltb-false, lt-ltb, le-ltb, ne_eqb}
use Rattle.std.proofs.lemmas.Slice.Eq.{bytes_eq-Decides}
use Rattle.std.proofs.lemmas.Fmt.{decimal_nonempty, digits_decimal}
use Rattle.std.proofs.lemmas.Str.Parse.{digit_at}
use Rattle.rl_text.specs.declared.causes.Refusal.{Refusal}
use Rattle.rl_text.specs.declared.causes.Why.{Why}
use Rattle.rl_text.specs.declared.causes.Why.TheVariants.{Word, Range, Repeat, Order, Version, NoEnd}
use Rattle.rl_text.specs.Number.{number_of}
use Rattle.rl_text.specs.Rows.{Row, words, word_at}
use Rattle.rl_text.specs.Reading.{◌>>=◌, refusal_at, or_missing, or_number, or_extra, needed_at, fixed_at, number_at, below_at, between_at, next_at, no_word_at, begins, starts_with_word, header_at, whole, next_row, no_row, end_at}
use Rattle.rl_text.proofs.Decimals.{own, number_of-spelled, number_of-decimal}
use Rattle.rl_text.proofs.TextLaws.{AreLines, is_plain, IsPlain, words-join}

-- the value of a step that did not fail
pub bind_ok : {A B E : Type 0} (r : Result A E) (f : A → Result B E) (y : B) → (r >>= f) ≡ Ok y → (x : A) × (r ≡ Ok x) × (f x ≡ Ok y)
bind_ok (Ok x) f y e = (x, refl, e)
bind_ok (Err d) f y e = absurd cc

-- a test that did not fail
pub test_ok : {A : Type 0} (b : Bool) (d : Refusal) (x y : A) → cond b (Ok x) (Err d) ≡ Ok y → (b ≡ true) × (x ≡ y)
test_ok true d x y e = (refl, cc)
test_ok false d x y e = absurd cc

abbrev pub done : {A : Type 0} → A → Result A Refusal
done x = Ok x

pub ok_is : {A : Type 0} (x y : A) → done x ≡ done y → x ≡ y
ok_is x y e = cc

-- ---- one word

needed-is : (row : Row) (n : ℕ) (o : Option (List ℕ)) (w : List ℕ) → or_missing row n o ≡ Ok w → o ≡ Some w
needed-is row n None w e = absurd cc
needed-is row n (Some v) w e = cc

number-is : (row : Row) (n : ℕ) (o : Option ℕ) (k : ℕ) → or_number row n o ≡ Ok k → o ≡ Some k
number-is row n None k e = absurd cc
number-is row n (Some j) k e = cc

-- a fixed word
pub fixed-takes : (row : Row) (n : ℕ) (text : List ℕ) (why : Why) (u : Unit {0}) → fixed_at row n text why ≡ Ok u → word_at row n ≡ Some text
unfolding fixed_at needed_at
fixed-takes row n text why u e =
    let b = bind_ok (or_missing row n (word_at row n)) (λ word. cond (bytes_eq word text) (Ok tt) (Err (refusal_at row n why))) u e in
    let t = test_ok (bytes_eq b.0 text) (refusal_at row n why) tt u b.2 in
    needed-is row n (word_at row n) b.0 b.1 ∙ ap (λ (w : List ℕ). Some w) ((bytes_eq-Decides b.0 text).0 t.0)

pub fixed-again : (row : Row) (n : ℕ) (text : List ℕ) (why : Why) → word_at row n ≡ Some text → fixed_at row n text why ≡ Ok tt
unfolding fixed_at needed_at
fixed-again row n text why e =
    let same : bytes_eq text text ≡ true = (bytes_eq-Decides text text).1 refl in
    rw (e, same) refl

-- a number
pub record IsNumberAt (row : Row) (n k : ℕ) : Type 0 where
  pub word : word_at row n ≡ Some (decimal k)
  pub fits : k < 2 ^ 64

pub number-takes : (row : Row) (n k : ℕ) → number_at row n ≡ Ok k → IsNumberAt row n k
unfolding number_at needed_at
number-takes row n k e =
    let b = bind_ok (or_missing row n (word_at row n)) (λ word. or_number row n (number_of word)) k e in
    let s = number_of-spelled b.0 k (number-is row n (number_of b.0) k b.2) in
    record { word = needed-is row n (word_at row n) b.0 b.1 ∙ ap (λ (w : List ℕ). Some w) s.1; fits = s.0 }

pub number-again : (row : Row) (n k : ℕ) → IsNumberAt row n k → number_at row n ≡ Ok k
unfolding number_at needed_at
number-again row n k h = rw (h.word, number_of-decimal k h.fits) refl

-- a number below a limit
pub below-takes : (row : Row) (n limit k : ℕ) → below_at row n limit ≡ Ok k → IsNumberAt row n k × (k < limit)
unfolding below_at
below-takes row n limit k e =
    let b = bind_ok (number_at row n) (λ j. cond (ltb j limit) (Ok j) (Err (refusal_at row n Range))) k e in
    let t = test_ok (ltb b.0 limit) (refusal_at row n Range) b.0 k b.2 in
    (subst (λ (j : ℕ). IsNumberAt row n j) t.1 (number-takes row n b.0 b.1), rw (← t.1) (ltb-true b.0 limit t.0))

pub below-again : (row : Row) (n limit k : ℕ) → IsNumberAt row n k → k < limit → below_at row n limit ≡ Ok k
unfolding below_at
below-again row n limit k h below = rw (number-again row n k h, lt-ltb k limit below) refl

-- no word
no_word-is : (row : Row) (n : ℕ) (o : Option (List ℕ)) (u : Unit {0}) → or_extra row n o ≡ Ok u → o ≡ None
no_word-is row n None u e = refl
no_word-is row n (Some w) u e = absurd cc

pub no_word-takes : (row : Row) (n : ℕ) (u : Unit {0}) → no_word_at row n ≡ Ok u → word_at row n ≡ None
unfolding no_word_at
no_word-takes row n u e = no_word-is row n (word_at row n) u e

pub no_word-again : (row : Row) (n : ℕ) → word_at row n ≡ None → no_word_at row n ≡ Ok tt
unfolding no_word_at
no_word-again row n e = rw e refl

-- ---- all words of a line

pub words-cons : (ws : List (List ℕ)) (n : ℕ) (w : List ℕ) (more : List (List ℕ)) → slice_get ws n ≡ Some w → drop (suc n) ws ≡ more → drop n ws ≡ w ∷ more
words-cons [] n w more e h = absurd cc
words-cons (v ∷ ws) zero w more e h = let same : ws ≡ more = h in cc
words-cons (v ∷ ws) (suc n) w more e h = words-cons ws n w more e h

pub words-nil : (ws : List (List ℕ)) (n : ℕ) → slice_get ws n ≡ None → drop n ws ≡ []
words-nil [] zero e = refl
words-nil [] (suc n) e = refl
words-nil (v ∷ ws) zero e = absurd cc
words-nil (v ∷ ws) (suc n) e = words-nil ws n e

-- ---- the first word of a line

pub begins-is : (row : Row) (w text : List ℕ) → word_at row 1 ≡ Some w → begins row text ≡ bytes_eq w text
unfolding begins
begins-is row w text e = rw e refl

begun : (o : Option (List ℕ)) (text : List ℕ) → starts_with_word text o ≡ true → o ≡ Some text
begun None text e = absurd cc
begun (Some w) text e = ap (λ (v : List ℕ). Some v) ((bytes_eq-Decides w text).0 e)

pub begins-takes : (row : Row) (text : List ℕ) → begins row text ≡ true → word_at row 1 ≡ Some text
unfolding begins
begins-takes row text e = begun (word_at row 1) text e

differ : (b : Bool) → (b ≡ true → ⊥) → b ≡ false
differ true h = absurd (h refl)
differ false h = refl

-- a number is no word that begins with a letter
pub decimal-no_word : (k : ℕ) (text : List ℕ) → k < 2 ^ 64 → 58 ≤ get_or text 0 0 → bytes_eq (decimal k) text ≡ false
decimal-no_word k text h letter = differ (bytes_eq (decimal k) text) (λ e.
    let same : decimal k ≡ text = (bytes_eq-Decides (decimal k) text).0 e in
    let digit = digit_at (decimal k) 0 (digits_decimal own k h) (decimal_nonempty k h) in
    omega (arith, digit.1, ap (λ (w : List ℕ). get_or w 0 0) same))

-- a decimal spelling is plain
plain_digits : (ds : List ℕ) → AllDigits 10 ds → is_plain ds ≡ true
plain_digits [] h = refl
plain_digits (d ∷ ds) h =
    let digit = digit_at (d ∷ ds) 0 h (omega arith) in
    rw (ne_eqb d 32 (λ e. omega (arith, digit.0)), ne_eqb d 10 (λ e. omega (arith, digit.0))) (plain_digits ds h.1)

pub plain-decimal : (k : ℕ) → k < 2 ^ 64 → is_plain (decimal k) ≡ true
plain-decimal k h = plain_digits (decimal k) (digits_decimal own k h)

-- ---- the first line, and the end

pub header-takes : (row : Row) (name : List ℕ) (u : Unit {0}) → header_at row name ≡ Ok u → words row ≡ name ∷ codes "1" ∷ []
unfolding header_at
header-takes row name u e =
    let a = bind_ok (fixed_at row 1 name Word) (λ x. fixed_at row 2 (codes "1") Version >>= λ y. no_word_at row 3) u e in
    let b = bind_ok (fixed_at row 2 (codes "1") Version) (λ y. no_word_at row 3) u a.2 in
    words-cons (words row) 0 name _ (fixed-takes row 1 name Word a.0 a.1)
    (words-cons (words row) 1 (codes "1") _ (fixed-takes row 2 (codes "1") Version b.0 b.1) (words-nil (words row) 2 (no_word-takes row 3 u b.2)))

pub header-again : (row : Row) (name : List ℕ) → words row ≡ name ∷ codes "1" ∷ [] → header_at row name ≡ Ok tt
unfolding header_at
header-again row name e =
    rw (fixed-again row 1 name Word (rw e refl), fixed-again row 2 (codes "1") Version (rw e refl)) (no_word-again row 3 (rw e refl))

-- a line that is ended
pub whole-takes : (row there : Row) → whole row ≡ Ok there → (row ≡ there) × (row.ended ≡ true)
unfolding whole
whole-takes row there e = let t = test_ok row.ended (refusal_at row 0 NoEnd) row there e in (t.1, t.0)

pub whole-again : (row : Row) → row.ended ≡ true → whole row ≡ Ok row
unfolding whole
whole-again row e = rw e refl

pub end-takes : (row : Row) (rows : List Row) (u : Unit {0}) → row.ended ≡ true → begins row (codes "end") ≡ true → end_at row rows ≡ Ok u → AreLines (row ∷ rows) ((codes "end" ∷ []) ∷ [])
unfolding end_at no_row
end-takes row [] u ended b e =
    let a = bind_ok (no_word_at row 2) (λ x. no_row []) u e in
    (record { ended = ended; words = words-cons (words row) 0 (codes "end") _ (begins-takes row (codes "end") b) (words-nil (words row) 1 (no_word-takes row 2 a.0 a.1)) }, tt)
end-takes row (more ∷ rows) u ended b e =
    let a = bind_ok (no_word_at row 2) (λ x. no_row (more ∷ rows)) u e in
    absurd (no_more more rows u a.2)
  where
    no_more : (more : Row) (rows : List Row) (u : Unit {0}) → no_row (more ∷ rows) ≡ Ok u → ⊥
    no_more more rows u e = cc

pub end-again : (row : Row) → words row ≡ codes "end" ∷ [] → (begins row (codes "end") ≡ true) × (end_at row [] ≡ Ok tt)
unfolding end_at no_row
end-again row e = (begins-is row (codes "end") (codes "end") (rw e refl), rw (no_word-again row 2 (rw e refl)) refl)

pub next-takes : (read : ℕ) (rows more : List Row) (row : Row) → next_row read rows ≡ Ok (row, more) → (rows ≡ row ∷ more) × (row.ended ≡ true)
unfolding next_row
next-takes read [] more row e = absurd cc
next-takes read (first ∷ rows) more row e =
    let b = bind_ok (whole first) (λ there. Ok (there, rows)) (row, more) e in
    let t = whole-takes first b.0 b.1 in
    let same : first ≡ row = t.0 ∙ ap (λ (p : Row × List Row). p.0) (ok_is (b.0, rows) (row, more) b.2) in
    let others : rows ≡ more = ap (λ (p : Row × List Row). p.1) (ok_is (b.0, rows) (row, more) b.2) in
    (rw (same, others) refl, rw (← same) t.1)

pub next-again : (read : ℕ) (row : Row) (more : List Row) → row.ended ≡ true → next_row read (row ∷ more) ≡ Ok (row, more)
unfolding next_row
next-again read row more e = rw (whole-again row e) refl

-- which way a test went
pub chosen : {A : Type 0} (b : Bool) (x y z : A) → cond b x y ≡ z → ((b ≡ true) × (x ≡ z)) ⊎ ((b ≡ false) × (y ≡ z))
chosen true x y z e = inl (refl, e)
chosen false x y z e = inr (refl, e)

-- the words of a line that was made of words
pub words-made : (n : ℕ) (ws : List (List ℕ)) → IsPlain ws → words (record { number = n; text = join_with_byte 32 ws; ended = true }) ≡ ws
unfolding words
words-made n ws h = words-join ws h

pub needed-takes : (row : Row) (n : ℕ) (w : List ℕ) → needed_at row n ≡ Ok w → word_at row n ≡ Some w
unfolding needed_at
needed-takes row n w e = needed-is row n (word_at row n) w e

pub needed-again : (row : Row) (n : ℕ) (w : List ℕ) → word_at row n ≡ Some w → needed_at row n ≡ Ok w
unfolding needed_at
needed-again row n w e = rw e refl

-- a number between two limits
pub between-takes : (row : Row) (n low high k : ℕ) → between_at row n low high ≡ Ok k → IsNumberAt row n k × (low ≤ k) × (k ≤ high)
unfolding between_at
between-takes row n low high k e =
    let b = bind_ok (below_at row n (high + 1)) (λ j. cond (ltb j low) (Err (refusal_at row n Range)) (Ok j)) k e in
    let below = below-takes row n (high + 1) b.0 b.1 in
    let t = passed (ltb b.0 low) (refusal_at row n Range) b.0 k b.2 in
    let same : b.0 ≡ k = t.1 in
    (subst (λ (j : ℕ). IsNumberAt row n j) same below.0, omega (arith, ltb-false b.0 low t.0, same), omega (arith, below.1, same))
  where
    passed : {A : Type 0} (b : Bool) (d : Refusal) (x y : A) → cond b (Err d) (Ok x) ≡ Ok y → (b ≡ false) × (x ≡ y)
    passed true d x y e = absurd cc
    passed false d x y e = (refl, cc)

pub between-again : (row : Row) (n low high k : ℕ) → IsNumberAt row n k → low ≤ k → k ≤ high → between_at row n low high ≡ Ok k
unfolding between_at
between-again row n low high k h least most = rw (below-again row n (high + 1) k h (omega arith), le-ltb k low least) refl

-- the next number of a count
pub in_order-takes : (row : Row) (n k next : ℕ) (u : Unit {0}) → next_at row n k next ≡ Ok u → k ≡ next
in_order-takes row n k next u e =
    elim (chosen (ltb k next) (Err (refusal_at row n Repeat)) (cond (ltb next k) (Err (refusal_at row n Order)) (Ok tt)) (Ok u) e) [
      | inl p ↦ absurd (refused_ok (refusal_at row n Repeat) u p.1)
      | inr p ↦ elim (chosen (ltb next k) (Err (refusal_at row n Order)) (Ok tt) (Ok u) p.1) [
        | inl q ↦ absurd (refused_ok (refusal_at row n Order) u q.1)
        | inr q ↦ omega (arith, ltb-false k next p.0, ltb-false next k q.0)
      ]
    ]
  where
    refused_ok : (d : Refusal) (v : Unit {0}) → ◌≡◌ {A = Result (Unit {0}) Refusal} (Err d) (Ok v) → ⊥
    refused_ok d v e = cc

pub in_order-again : (row : Row) (n k : ℕ) → next_at row n k k ≡ Ok tt
in_order-again row n k = rw (le-ltb k k (omega arith)) refl
