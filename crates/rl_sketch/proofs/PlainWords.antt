-- Lines without a newline, and their words.
use Rattle.std.proofs.Common.{◌≡◌, ℕ, zero, suc, ◌<◌, Bool, true, false, not, ◌&&◌, cond, eqb, List, [], ◌∷◌, length, drop, refl, sym, ap, subst, ◌∙◌, arith}
use Rattle.std.specs.List.{AllByRecursion, list_any, onto_first, join_with_byte}
use Rattle.std.proofs.lemmas.List.Folds.{list_any-append}
use Rattle.std.proofs.lemmas.List.Splits.{slice_split-cons_yes, slice_split-cons_no, length-slice_split}
use Rattle.rl_text.specs.Cut.{pieces}
use Rattle.rl_text.specs.Rows.{Row, rows_from, rows_of_pieces}
use Rattle.rl_text.proofs.TextLaws.{is_plain, IsPlain}
use Rattle.rl_sketch.specs.Sketch.{is_one_line}
use Rattle.rl_sketch.proofs.Outcomes.{either_way, or_false, neither, negated}

-- a byte stands in a text
abbrev pub has : ℕ → List ℕ → Bool
has byte text = list_any (λ b. eqb b byte) text

pub one_line-has : (text : List ℕ) → is_one_line text ≡ true → has 10 text ≡ false
one_line-has text e = negated (has 10 text) e

pub has-one_line : (text : List ℕ) → has 10 text ≡ false → is_one_line text ≡ true
has-one_line text e = ap not e

-- ---- the lines of a text

onto-has : (byte b : ℕ) (ps : List (List ℕ)) → eqb b byte ≡ false → AllByRecursion (λ p. has byte p ≡ false) ps → AllByRecursion (λ p. has byte p ≡ false) (onto_first b ps)
onto-has byte b [] e all = (neither (eqb b byte) false e refl, tt)
onto-has byte b (p ∷ ps) e all = (neither (eqb b byte) (has byte p) e all.0, all.1)

-- a piece between separators has none
pieces-has : (byte : ℕ) (text : List ℕ) → AllByRecursion (λ p. has byte p ≡ false) (pieces byte text)
pieces-has byte [] = (refl, tt)
pieces-has byte (b ∷ bs) =
    either_way (eqb b byte)
    (λ passes. subst (λ (ps : List (List ℕ)). AllByRecursion (λ p. has byte p ≡ false) ps) (sym (slice_split-cons_yes (λ c. eqb c byte) b bs passes)) (refl, pieces-has byte bs))
    (λ fails. subst (λ (ps : List (List ℕ)). AllByRecursion (λ p. has byte p ≡ false) ps) (sym (slice_split-cons_no (λ c. eqb c byte) b bs fails)) (onto-has byte b (pieces byte bs) fails (pieces-has byte bs)))

-- rows without a newline
abbrev pub OneLines : List Row → Type 0
OneLines rows = AllByRecursion (λ line. is_one_line line.text ≡ true) rows

last_row : (b : Bool) (line : Row) → is_one_line line.text ≡ true → OneLines (cond b [] (line ∷ []))
last_row true line e = tt
last_row false line e = (e, tt)

rows-lines : (n : ℕ) (ps : List (List ℕ)) → AllByRecursion (λ p. has 10 p ≡ false) ps → OneLines (rows_of_pieces n ps)
rows-lines n [] all = tt
rows-lines n (p ∷ []) all = last_row (eqb (length p) 0) (record { number = n; text = p; ended = false }) (has-one_line p all.0)
rows-lines n (p ∷ q ∷ ps) all = (has-one_line p all.0, rows-lines (suc n) (q ∷ ps) all.1)

pub rows-one_lines : (n : ℕ) (text : List ℕ) → OneLines (rows_from n text)
unfolding rows_from
rows-one_lines n text = rows-lines n (pieces 10 text) (pieces-has 10 text)

-- ---- the words of a line

plain-first : (b : ℕ) (p : List ℕ) → eqb b 32 ≡ false → eqb b 10 ≡ false → is_plain p ≡ true → is_plain (b ∷ p) ≡ true
plain-first b p space newline plain = rw (space, newline, plain) refl

onto-plain : (b : ℕ) (ps : List (List ℕ)) → eqb b 32 ≡ false → eqb b 10 ≡ false → AllByRecursion (λ p. is_plain p ≡ true) ps → AllByRecursion (λ p. is_plain p ≡ true) (onto_first b ps)
onto-plain b [] space newline all = (plain-first b [] space newline refl, tt)
onto-plain b (p ∷ ps) space newline all = (plain-first b p space newline all.0, all.1)

words-plain : (text : List ℕ) → has 10 text ≡ false → AllByRecursion (λ p. is_plain p ≡ true) (pieces 32 text)
words-plain [] e = (refl, tt)
words-plain (b ∷ bs) e =
    let two = or_false (eqb b 10) (has 10 bs) e in
    let others = words-plain bs two.1 in
    either_way (eqb b 32)
    (λ passes. subst (λ (ps : List (List ℕ)). AllByRecursion (λ p. is_plain p ≡ true) ps) (sym (slice_split-cons_yes (λ c. eqb c 32) b bs passes)) (refl, others))
    (λ fails. subst (λ (ps : List (List ℕ)). AllByRecursion (λ p. is_plain p ≡ true) ps) (sym (slice_split-cons_no (λ c. eqb c 32) b bs fails)) (onto-plain b (pieces 32 bs) fails two.0 others))

pub some-pieces : (text : List ℕ) → 0 < length (pieces 32 text)
some-pieces text = omega (arith, length-slice_split (λ b. eqb b 32) text)

-- the words of a line are plain
pub pieces-plain : (text : List ℕ) → is_one_line text ≡ true → IsPlain (pieces 32 text)
pieces-plain text e = (some-pieces text, words-plain text (one_line-has text e))

drop-all : {X : Type 0} (P : X → Type 0) (n : ℕ) (xs : List X) → AllByRecursion P xs → AllByRecursion P (drop n xs)
drop-all P zero xs all = all
drop-all P (suc n) [] all = tt
drop-all P (suc n) (x ∷ xs) all = drop-all P n xs all.1

-- and so are those from one on
pub drop-plain : (n : ℕ) (text : List ℕ) → is_one_line text ≡ true → 0 < length (drop n (pieces 32 text)) → IsPlain (drop n (pieces 32 text))
drop-plain n text e some = (some, drop-all (λ p. is_plain p ≡ true) n (pieces 32 text) (words-plain text (one_line-has text e)))

plain-has : (w : List ℕ) → is_plain w ≡ true → has 10 w ≡ false
plain-has [] e = refl
plain-has (b ∷ bs) e =
    let p = both (eqb b 32) (eqb b 10) (is_plain bs) e in
    neither (eqb b 10) (has 10 bs) p.0 (plain-has bs p.1)
  where
    both : (x y z : Bool) → ((not x && not y) && z) ≡ true → (y ≡ false) × (z ≡ true)
    both false false z h = (refl, h)
    both true y z h = absurd cc
    both false true z h = absurd cc

join-has : (ws : List (List ℕ)) → AllByRecursion (λ w. is_plain w ≡ true) ws → has 10 (join_with_byte 32 ws) ≡ false
join-has [] all = refl
join-has (w ∷ []) all = plain-has w all.0
join-has (w ∷ v ∷ ws) all =
    list_any-append (λ b. eqb b 10) w (32 ∷ join_with_byte 32 (v ∷ ws)) ∙ neither (has 10 w) (has 10 (join_with_byte 32 (v ∷ ws))) (plain-has w all.0) (join-has (v ∷ ws) all.1)

-- plain words make one line
pub join-one_line : (ws : List (List ℕ)) → IsPlain ws → is_one_line (join_with_byte 32 ws) ≡ true
join-one_line ws plain = has-one_line (join_with_byte 32 ws) (join-has ws plain.1)
