-- A text and its lines of words, both ways.
use Rattle.std.proofs.Common.{◌≡◌, ℕ, suc, ◌+◌, ◌<◌, Bool, true, false, not, ◌&&◌, cond, eqb, List, [], ◌∷◌, ◌++◌, length, refl, sym, ap, ◌∙◌, append_assoc, arith}
use Rattle.std.specs.List.{list_all, join_with_byte, flat_map, AllByRecursion}
use Rattle.std.proofs.lemmas.List.{append-nil, nil_from_length}
use Rattle.std.proofs.lemmas.List.Elements.{All-from_recursion}
use Rattle.std.proofs.lemmas.List.Splits.{join_with_byte-slice_split, slice_split_at, slice_split_none}
use Rattle.std.proofs.lemmas.Bool.{eqb-true}
use Rattle.rl_text.specs.Cut.{pieces}
use Rattle.rl_text.specs.Rows.{Row, rows_from, rows_of_pieces, words}
use Rattle.rl_text.specs.Spelling.{line_text, text_of}
use Rattle.rl_text.proofs.RowLemmas.{rows-nil, rows-ended}

-- ---- from a text to its lines

-- a line that is ended and has these words
pub record IsLine (row : Row) (ws : List (List ℕ)) : Type 0 where
  pub ended : row.ended ≡ true
  pub words : words row ≡ ws

abbrev pub AreLines : List Row → List (List (List ℕ)) → Type 0
AreLines [] [] = Unit {0}
AreLines [] (ws ∷ lines) = ⊥
AreLines (row ∷ rows) [] = ⊥
AreLines (row ∷ rows) (ws ∷ lines) = IsLine row ws × AreLines rows lines

bytes_of : Row → List ℕ
bytes_of row = row.text ++ cond row.ended (10 ∷ []) []

bytes_of-line : (row : Row) (ws : List (List ℕ)) → IsLine row ws → bytes_of row ≡ line_text ws
unfolding bytes_of words
bytes_of-line row ws h = rw (h.ended, ← h.words, join_with_byte-slice_split 32 row.text) refl

bytes_of-lines : (rows : List Row) (lines : List (List (List ℕ))) → AreLines rows lines → flat_map bytes_of rows ≡ text_of lines
bytes_of-lines [] [] h = refl
bytes_of-lines [] (ws ∷ lines) h = absurd h
bytes_of-lines (row ∷ rows) [] h = absurd h
bytes_of-lines (row ∷ rows) (ws ∷ lines) h = rw (bytes_of-line row ws h.0, bytes_of-lines rows lines h.1) refl

last_piece : (b : Bool) (n : ℕ) (x : List ℕ) → (b ≡ true → x ≡ []) → flat_map bytes_of (cond b [] (record { number = n; text = x; ended = false } ∷ [])) ≡ x
unfolding bytes_of
last_piece true n x h = sym (h refl)
last_piece false n x h = append-nil (x ++ []) ∙ append-nil x

bytes_of-pieces : (n : ℕ) (ps : List (List ℕ)) → flat_map bytes_of (rows_of_pieces n ps) ≡ join_with_byte 10 ps
unfolding bytes_of
bytes_of-pieces n [] = refl
bytes_of-pieces n (x ∷ []) = last_piece (eqb (length x) 0) n x (λ h. nil_from_length x (eqb-true _ _ h))
bytes_of-pieces n (x ∷ y ∷ more) = rw (bytes_of-pieces (suc n) (y ∷ more)) (append_assoc x (10 ∷ []) (join_with_byte 10 (y ∷ more)))

-- a text whose lines have these words is spelled by them
pub text-lines : (n : ℕ) (text : List ℕ) (lines : List (List (List ℕ))) → AreLines (rows_from n text) lines → text ≡ text_of lines
unfolding rows_from
text-lines n text lines h = sym (join_with_byte-slice_split 10 text) ∙ sym (bytes_of-pieces n (pieces 10 text)) ∙ bytes_of-lines (rows_of_pieces n (pieces 10 text)) lines h

-- ---- from lines to their text

-- a word has no space and no newline
abbrev pub is_plain : List ℕ → Bool
is_plain word = list_all (λ b. not (eqb b 32) && not (eqb b 10)) word

-- a line has a word, and each is plain
abbrev pub IsPlain : List (List ℕ) → Type 0
IsPlain ws = (0 < length ws) × AllByRecursion (λ w. is_plain w ≡ true) ws

abbrev pub rows_of_lines : ℕ → List (List (List ℕ)) → List Row
rows_of_lines n [] = []
rows_of_lines n (ws ∷ lines) = record { number = n; text = join_with_byte 32 ws; ended = true } ∷ rows_of_lines (n + 1) lines

plain_at : (b : ℕ) (bs : List ℕ) → is_plain (b ∷ bs) ≡ true → (eqb b 32 ≡ false) × (eqb b 10 ≡ false) × (is_plain bs ≡ true)
plain_at b bs h = both (eqb b 32) (eqb b 10) (is_plain bs) h
  where
    both : (x y z : Bool) → ((not x && not y) && z) ≡ true → (x ≡ false) × (y ≡ false) × (z ≡ true)
    both false false z h = (refl, refl, h)
    both true y z h = absurd cc
    both false true z h = absurd cc

no_spaces : (w : List ℕ) → is_plain w ≡ true → AllByRecursion (λ b. eqb b 32 ≡ false) w
no_spaces [] h = tt
no_spaces (b ∷ bs) h = let p = plain_at b bs h in (p.0, no_spaces bs p.2)

no_newlines : (w : List ℕ) → is_plain w ≡ true → AllByRecursion (λ b. eqb b 10 ≡ false) w
no_newlines [] h = tt
no_newlines (b ∷ bs) h = let p = plain_at b bs h in (p.1, no_newlines bs p.2)

-- a word without this byte
abbrev pub HasNo : ℕ → List ℕ → Type 0
HasNo separator word = AllByRecursion (λ b. eqb b separator ≡ false) word

-- the pieces between single separators are the pieces
pub pieces-join : (separator : ℕ) (ws : List (List ℕ)) → 0 < length ws → AllByRecursion (HasNo separator) ws → eqb separator separator ≡ true → pieces separator (join_with_byte separator ws) ≡ ws
pieces-join separator [] some h same = absurd (omega (arith, some))
pieces-join separator (w ∷ []) some h same = slice_split_none (λ b. eqb b separator) w (All-from_recursion _ w h.0)
pieces-join separator (w ∷ v ∷ ws) some h same =
    slice_split_at (λ b. eqb b separator) w separator (join_with_byte separator (v ∷ ws)) (All-from_recursion _ w h.0) same
    ∙ ap (λ (vs : List (List ℕ)). w ∷ vs) (pieces-join separator (v ∷ ws) (omega arith) h.1 same)

have_no_spaces : (ws : List (List ℕ)) → AllByRecursion (λ w. is_plain w ≡ true) ws → AllByRecursion (HasNo 32) ws
have_no_spaces [] h = tt
have_no_spaces (w ∷ ws) h = (no_spaces w h.0, have_no_spaces ws h.1)

-- the words between single spaces are the words
pub words-join : (ws : List (List ℕ)) → IsPlain ws → pieces 32 (join_with_byte 32 ws) ≡ ws
words-join ws h = pieces-join 32 ws h.0 (have_no_spaces ws h.1) refl

pub AllByRecursion-append : {X : Type 0} (P : X → Type 0) (xs ys : List X) → AllByRecursion P xs → AllByRecursion P ys → AllByRecursion P (xs ++ ys)
AllByRecursion-append P [] ys p q = q
AllByRecursion-append P (x ∷ xs) ys p q = (p.0, AllByRecursion-append P xs ys p.1 q)

no_newlines-join : (ws : List (List ℕ)) → AllByRecursion (λ w. is_plain w ≡ true) ws → AllByRecursion (λ b. eqb b 10 ≡ false) (join_with_byte 32 ws)
no_newlines-join [] h = tt
no_newlines-join (w ∷ []) h = no_newlines w h.0
no_newlines-join (w ∷ v ∷ ws) h = AllByRecursion-append _ w (32 ∷ join_with_byte 32 (v ∷ ws)) (no_newlines w h.0) (refl, no_newlines-join (v ∷ ws) h.1)

-- a line of plain words before others
pub row-text : (n : ℕ) (ws : List (List ℕ)) (after : List ℕ) → IsPlain ws → rows_from n (join_with_byte 32 ws ++ 10 ∷ after) ≡ record { number = n; text = join_with_byte 32 ws; ended = true } ∷ rows_from (n + 1) after
row-text n ws after h =
    let text = join_with_byte 32 ws in
    rows-ended n (text ++ 10 ∷ after) text after (slice_split_at (λ b. eqb b 10) text 10 after (All-from_recursion _ text (no_newlines-join ws h.1)) refl)

-- lines of plain words are the lines of their text
pub rows-text : (n : ℕ) (lines : List (List (List ℕ))) → AllByRecursion IsPlain lines → rows_from n (text_of lines) ≡ rows_of_lines n lines
rows-text n [] h = rows-nil n
rows-text n (ws ∷ lines) h =
    let text = join_with_byte 32 ws in
    let after = text_of lines in
    let cut : pieces 10 (text ++ 10 ∷ after) ≡ text ∷ pieces 10 after = slice_split_at (λ b. eqb b 10) text 10 after (All-from_recursion _ text (no_newlines-join ws h.0.1)) refl in
    let whole : text_of (ws ∷ lines) ≡ text ++ 10 ∷ after = append_assoc text (10 ∷ []) after in
    ap (rows_from n) whole ∙ rows-ended n (text ++ 10 ∷ after) text after cut ∙ ap (λ (rows : List Row). record { number = n; text = text; ended = true } ∷ rows) (rows-text (n + 1) lines h.1)
