-- SIGHT, both ways.
use Rattle.std.proofs.Common.{◌≡◌, ℕ, zero, suc, ◌+◌, ◌-◌, ◌<◌, ◌≤◌, Bool, true, false, cond, List, [], ◌∷◌, length, drop, codes, Some, Ok, inl, inr, refl, sym, ap, subst, ◌∙◌, length-drop, arith}
use Rattle.std.specs.List.{slice_get, join_with_byte}
use Rattle.std.specs.Str.{bytes_eq}
use Rattle.std.proofs.lemmas.List.Splits.{join_with_byte-slice_split}
use Rattle.std.proofs.lemmas.Slice.Eq.{bytes_eq-Decides}
use Rattle.rl_text.specs.Cut.{pieces}
use Rattle.rl_text.specs.declared.causes.Why.TheVariants.{Word}
use Rattle.rl_text.specs.Rows.{Row, words, word_at}
use Rattle.rl_text.specs.LineWords.{words_from}
use Rattle.rl_text.specs.Reading.{◌>>=◌, needed_at, no_word_at, refusal_at}
use Rattle.rl_text.proofs.RowLemmas.{first_piece}
use Rattle.rl_text.proofs.TextLaws.{IsPlain, words-join}
use Rattle.rl_text.proofs.WordLaws.{done, ok_is, test_ok, chosen, needed-takes, needed-again, no_word-again}
use Rattle.rl_text.proofs.FromLaws.{from_bind, word_at-rest}
use Rattle.rl_text.proofs.LineWordLemmas.{word-there}
use Rattle.rl_ops.specs.Body.{passed_at}
use Rattle.rl_sketch.specs.declared.sketch.Sight.{Sight}
use Rattle.rl_sketch.specs.declared.sketch.Sight.TheVariants as sight
use Rattle.rl_sketch.specs.Sketch.{sight_words, is_opening, is_one_line, first_word, SightFits}
use Rattle.rl_sketch.specs.SketchReading.{opening_at, step_words_at, sight_at}
use Rattle.rl_sketch.proofs.Outcomes.{untrue, clash}
use Rattle.rl_sketch.proofs.PlainWords.{drop-plain, join-one_line}
use Rattle.rl_sketch.proofs.RankReading.{these_words}
use Rattle.rl_sketch.proofs.RankLists.{last_words}

there-below : (ws : List (List ℕ)) (i : ℕ) (w : List ℕ) → slice_get ws i ≡ Some w → i < length ws
there-below [] i w e = absurd cc
there-below (v ∷ ws) zero w e = omega arith
there-below (v ∷ ws) (suc i) w e = omega (arith, there-below ws i w e)

-- a word that is there has so many before it
pub needed-long : (line : Row) (n : ℕ) (w : List ℕ) → needed_at line n ≡ Ok w → n - 1 < length (pieces 32 line.text)
unfolding words
needed-long line n w e = there-below (pieces 32 line.text) (n - 1) w (needed-takes line n w e)

drop-behind : (ws : List (List ℕ)) (i : ℕ) (w : List ℕ) (more : List (List ℕ)) → drop i ws ≡ w ∷ more → more ≡ drop (suc i) ws
drop-behind [] zero w more e = absurd cc
drop-behind [] (suc i) w more e = absurd cc
drop-behind (v ∷ ws) zero w more e = let same : ws ≡ more = cc in sym same
drop-behind (v ∷ ws) (suc i) w more e = drop-behind ws i w more e

-- a text of which so many words are dropped, one after the other
pub one-dropped : (text rest word after : List ℕ) (i : ℕ) → pieces 32 rest ≡ drop i (pieces 32 text) → pieces 32 rest ≡ word ∷ pieces 32 after → pieces 32 after ≡ drop (i + 1) (pieces 32 text)
one-dropped text rest word after i so_far cut =
    let next : suc i ≡ i + 1 = omega arith in
    drop-behind (pieces 32 text) i word (pieces 32 after) (sym so_far ∙ cut) ∙ ap (λ (m : ℕ). drop m (pieces 32 text)) next

-- where no space is left, no further word is dropped
pub none-dropped : (text rest : List ℕ) (i count : ℕ) → pieces 32 rest ≡ drop i (pieces 32 text) → pieces 32 rest ≡ rest ∷ [] → i < count → count < length (pieces 32 text) → ⊥
none-dropped text rest i count so_far whole more long = omega (arith, length-drop i (pieces 32 text), ap (λ (vs : List (List ℕ)). length vs) (sym so_far ∙ whole), more, long)

pub all-dropped : (text rest : List ℕ) (i : ℕ) → pieces 32 rest ≡ drop i (pieces 32 text) → rest ≡ join_with_byte 32 (drop i (pieces 32 text))
all-dropped text rest i so_far = sym (join_with_byte-slice_split 32 rest) ∙ ap (join_with_byte 32) so_far

-- the sight is spelled by the words from one on
abbrev pub SightTaken : Row → ℕ → Sight → Type 0
SightTaken line n seen = (words_from line n ≡ sight_words seen) × SightFits seen

step-takes : (line : Row) (n : ℕ) (word : List ℕ) (seen : Sight) → is_one_line line.text ≡ true → 1 ≤ n → word_at line n ≡ Some word → step_words_at line n word ≡ Ok seen → SightTaken line n seen
unfolding step_words_at opening_at words
step-takes line n word seen one_line one there e =
    from_bind (passed_at line n Word (is_opening word)) (λ opens. Ok (sight.Words (join_with_byte 32 (words_from line n)))) seen e (λ opens o last.
    let opening = (test_ok (is_opening word) (refusal_at line n Word) tt opens o).0 in
    let ws = words_from line n in
    let shape : ws ≡ word ∷ words_from line (n + 1) = these_words line n word one there in
    let some : 0 < length ws = omega (arith, ap (λ (vs : List (List ℕ)). length vs) shape) in
    let plain : IsPlain ws = drop-plain (n - 1) line.text one_line some in
    let back : pieces 32 (join_with_byte 32 ws) ≡ ws = words-join ws plain in
    let first : is_opening (first_word (pieces 32 (join_with_byte 32 ws))) ≡ true = ap (λ (vs : List (List ℕ)). is_opening (first_word vs)) (back ∙ shape) ∙ opening in
    subst (λ (s : Sight). SightTaken line n s) (ok_is (sight.Words (join_with_byte 32 ws)) seen last) (sym back, (first, join-one_line ws plain)))

alone-takes : (line : Row) (n : ℕ) (word text : List ℕ) (made seen : Sight) → 1 ≤ n → word_at line n ≡ Some word → bytes_eq word text ≡ true → sight_words made ≡ text ∷ [] → SightFits made → (no_word_at line (n + 1) >>= λ alone. Ok made) ≡ Ok seen → SightTaken line n seen
alone-takes line n word text made seen one there same spelled fits e =
    from_bind (no_word_at line (n + 1)) (λ alone. Ok made) seen e (λ alone a last.
    let is : word ≡ text = (bytes_eq-Decides word text).0 same in
    let all : words_from line n ≡ text ∷ [] = these_words line n word one there ∙ ap (λ (v : List ℕ). v ∷ words_from line (n + 1)) is ∙ ap (λ (vs : List (List ℕ)). text ∷ vs) (last_words line (n + 1) alone a) in
    subst (λ (s : Sight). SightTaken line n s) (ok_is made seen last) (all ∙ sym spelled, fits))

pub sight-takes : (line : Row) (n : ℕ) (seen : Sight) → is_one_line line.text ≡ true → 1 ≤ n → sight_at line n ≡ Ok seen → SightTaken line n seen
unfolding sight_at
sight-takes line n seen one_line one e =
    from_bind (needed_at line n) _ seen e (λ word w rest.
    let there = needed-takes line n word w in
    elim (chosen (bytes_eq word (codes "done")) (no_word_at line (n + 1) >>= λ alone. Ok sight.Done) (cond (bytes_eq word (codes "out")) (no_word_at line (n + 1) >>= λ alone. Ok sight.Out) (step_words_at line n word)) (Ok seen) rest) [
      | inl p ↦ alone-takes line n word (codes "done") sight.Done seen one there p.0 refl tt p.1
      | inr p ↦ elim (chosen (bytes_eq word (codes "out")) (no_word_at line (n + 1) >>= λ alone. Ok sight.Out) (step_words_at line n word) (Ok seen) p.1) [
        | inl q ↦ alone-takes line n word (codes "out") sight.Out seen one there q.0 refl tt q.1
        | inr q ↦ step-takes line n word seen one_line one there q.1
      ]
    ])

-- a word that begins a step is no other word
not_opening : (word text : List ℕ) → is_opening word ≡ true → is_opening text ≡ false → bytes_eq word text ≡ false
not_opening word text opens other = untrue (bytes_eq word text) (λ e. clash (is_opening word) (is_opening text) (ap is_opening ((bytes_eq-Decides word text).0 e)) opens other)

opening-again : (line : Row) (n : ℕ) (word : List ℕ) → is_opening word ≡ true → opening_at line n word ≡ Ok tt
unfolding opening_at
opening-again line n word opens = passes (is_opening word) opens
  where
    passes : (b : Bool) → b ≡ true → passed_at line n Word b ≡ Ok tt
    passes b e = rw e refl

step-again : (line : Row) (n : ℕ) (word text : List ℕ) → is_opening word ≡ true → words_from line n ≡ pieces 32 text → step_words_at line n word ≡ Ok (sight.Words text)
unfolding step_words_at
step-again line n word text opens from =
    let same : join_with_byte 32 (words_from line n) ≡ text = ap (join_with_byte 32) from ∙ join_with_byte-slice_split 32 text in
    rw (opening-again line n word opens) (ap (λ (t : List ℕ). done (sight.Words t)) same)

pub sight-again : (line : Row) (n : ℕ) (seen : Sight) → 1 ≤ n → words_from line n ≡ sight_words seen → SightFits seen → sight_at line n ≡ Ok seen
unfolding sight_at
sight-again line n sight.Done one from fits =
    rw (needed-again line n (codes "done") (word-there line n (codes "done") [] one from), no_word-again line (n + 1) (word_at-rest line n (n + 1) 1 (codes "done" ∷ []) one refl from)) refl
sight-again line n sight.Out one from fits =
    rw (needed-again line n (codes "out") (word-there line n (codes "out") [] one from), no_word-again line (n + 1) (word_at-rest line n (n + 1) 1 (codes "out" ∷ []) one refl from)) refl
sight-again line n (sight.Words text) one from fits =
    let p = first_piece 32 text in
    let opens : is_opening p.0 ≡ true = ap (λ (vs : List (List ℕ)). is_opening (first_word vs)) (sym p.2) ∙ fits.0 in
    let not_done : bytes_eq p.0 (codes "done") ≡ false = not_opening p.0 (codes "done") opens refl in
    let out : bytes_eq p.0 (codes "out") ≡ false = not_opening p.0 (codes "out") opens refl in
    rw (needed-again line n p.0 (word-there line n p.0 p.1 one (from ∙ p.2)), not_done, out) (step-again line n p.0 text opens from)
