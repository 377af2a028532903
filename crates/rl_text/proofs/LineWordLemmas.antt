-- The words of a line one after the other.
use Rattle.std.proofs.Common.{◌≡◌, ℕ, zero, suc, ◌+◌, ◌-◌, ◌≤◌, Bool, List, [], ◌∷◌, drop, Some, None, refl, sym, ◌∙◌, arith}
use Rattle.rl_text.specs.Cut.{pieces}
use Rattle.rl_text.specs.Rows.{Row, words, word_at}
use Rattle.rl_text.specs.Reading.{begins, starts_with_word}
use Rattle.rl_text.specs.LineWords.{TheLineWords, words_from}
use Rattle.rl_text.proofs.RowLemmas.{first_piece}
use Rattle.rl_text.proofs.FromLaws.{word_at-rest}

drop-one : (ws : List (List ℕ)) (i : ℕ) (x : List ℕ) (more : List (List ℕ)) → drop i ws ≡ x ∷ more → drop (suc i) ws ≡ more
drop-one [] zero x more e = absurd cc
drop-one [] (suc i) x more e = absurd cc
drop-one (w ∷ ws) zero x more e = cc
drop-one (w ∷ ws) (suc i) x more e = drop-one ws i x more e

drop-past : (ws : List (List ℕ)) (i : ℕ) → drop i ws ≡ [] → drop (suc i) ws ≡ []
drop-past [] i e = refl
drop-past (w ∷ ws) zero e = absurd cc
drop-past (w ∷ ws) (suc i) e = drop-past ws i e

-- past a word
pub past-word : (row : Row) (n : ℕ) (x : List ℕ) (more : List (List ℕ)) → 1 ≤ n → words_from row n ≡ x ∷ more → words_from row (n + 1) ≡ more
past-word row n x more one e =
    let k : n + 1 - 1 ≡ suc (n - 1) = omega arith in
    rw k (drop-one (words row) (n - 1) x more e)

-- past the last word
pub past-end : (row : Row) (n : ℕ) → 1 ≤ n → words_from row n ≡ [] → words_from row (n + 1) ≡ []
past-end row n one e =
    let k : n + 1 - 1 ≡ suc (n - 1) = omega arith in
    rw k (drop-past (words row) (n - 1) e)

-- the word there
pub word-there : (row : Row) (n : ℕ) (x : List ℕ) (more : List (List ℕ)) → 1 ≤ n → words_from row n ≡ x ∷ more → word_at row n ≡ Some x
word-there row n x more one e = word_at-rest row n n 0 (x ∷ more) one (omega arith) e

pub no_word-there : (row : Row) (n : ℕ) → 1 ≤ n → words_from row n ≡ [] → word_at row n ≡ None
no_word-there row n one e = word_at-rest row n n 0 [] one (omega arith) e

-- bytes that are left begin with a word, be it an empty one
pub some_word-there : (row : Row) (n : ℕ) (rest : List ℕ) → 1 ≤ n → words_from row n ≡ pieces 32 rest → (x : List ℕ) × (word_at row n ≡ Some x)
some_word-there row n rest one e =
    let p = first_piece 32 rest in
    (p.0, word-there row n p.0 p.1 one (e ∙ p.2))

-- what comes next at the first word is what the line begins with
pub begins-next : (row : Row) (text : List ℕ) (w : TheLineWords) (answer : Bool) → w ≡ record { row = row; next = 1 } → answer ≡ starts_with_word text (word_at w.row w.next) → begins row text ≡ answer
unfolding begins
begins-next row text w answer first e = sym (rw first at e)
