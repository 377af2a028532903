-- Sections of a text: lines that others follow.
use Rattle.std.proofs.Common.{◌≡◌, ℕ, ◌+◌, true, List, [], ◌∷◌, ◌++◌, Ok, refl, sym, subst}
use Rattle.rl_text.specs.Rows.{Row, Left, words}
use Rattle.rl_text.specs.Reading.{next_left, next_row}
use Rattle.rl_text.proofs.TextLaws.{IsLine, AreLines}
use Rattle.rl_text.proofs.WordLaws.{next-takes, next-again, ok_is}
use Rattle.rl_text.proofs.FromLaws.{from_bind}

-- the first rows are these lines, and the rest come after them
abbrev pub Followed : List Row → List (List (List ℕ)) → List Row → Type 0
Followed rows [] rest = rows ≡ rest
Followed [] (ws ∷ lines) rest = ⊥
Followed (row ∷ rows) (ws ∷ lines) rest = IsLine row ws × Followed rows lines rest

-- one section after the other
pub Followed-then : (a b c : List Row) (xs ys : List (List (List ℕ))) → Followed a xs b → Followed b ys c → Followed a (xs ++ ys) c
Followed-then a b c [] ys p q = subst (λ (rows : List Row). Followed rows ys c) (sym p) q
Followed-then [] b c (x ∷ xs) ys p q = absurd p
Followed-then (row ∷ rows) b c (x ∷ xs) ys p q = (p.0, Followed-then rows b c xs ys p.1 q)

-- a section that nothing follows is all lines
pub Followed-lines : (rows : List Row) (lines : List (List (List ℕ))) → Followed rows lines [] → AreLines rows lines
Followed-lines rows [] p = subst (λ (more : List Row). AreLines more []) (sym p) tt
Followed-lines [] (ws ∷ lines) p = absurd p
Followed-lines (row ∷ rows) (ws ∷ lines) p = (p.0, Followed-lines rows lines p.1)

pub Lines-followed : (rows : List Row) (lines : List (List (List ℕ))) → AreLines rows lines → Followed rows lines []
Lines-followed [] [] p = refl
Lines-followed [] (ws ∷ lines) p = absurd p
Lines-followed (row ∷ rows) [] p = absurd p
Lines-followed (row ∷ rows) (ws ∷ lines) p = (p.0, Lines-followed rows lines p.1)

-- the first line of a section
pub record Headed (rows : List Row) (ws : List (List ℕ)) (lines : List (List (List ℕ))) (rest : List Row) : Type 0 where
  pub row : Row
  pub more : List Row
  pub are : rows ≡ row ∷ more
  pub line : IsLine row ws
  pub others : Followed more lines rest

pub Followed-head : (rows : List Row) (ws : List (List ℕ)) (lines : List (List (List ℕ))) (rest : List Row) → Followed rows (ws ∷ lines) rest → Headed rows ws lines rest
Followed-head [] ws lines rest p = absurd p
Followed-head (row ∷ more) ws lines rest p = record { row = row; more = more; are = refl; line = p.0; others = p.1 }

-- a section is two sections one after the other
pub Followed-split : (a c : List Row) (xs ys : List (List (List ℕ))) → Followed a (xs ++ ys) c → (b : List Row) × Followed a xs b × Followed b ys c
Followed-split a c [] ys p = (a, refl, p)
Followed-split [] c (x ∷ xs) ys p = absurd p
Followed-split (row ∷ rows) c (x ∷ xs) ys p = let q = Followed-split rows c xs ys p.1 in (q.0, (p.0, q.1), q.2)

-- ---- a line that was read, and what is left

abbrev pub left_of : List Row → ℕ → Left
left_of rows read = record { rows = rows; read = read }

pub record LineTaken (left : Left) (p : Row × Left) : Type 0 where
  pub rows : left.rows ≡ p.0 ∷ p.1.rows
  pub ended : p.0.ended ≡ true

pub line-takes : (left : Left) (p : Row × Left) → next_left left ≡ Ok p → LineTaken left p
unfolding next_left
line-takes left p e =
    from_bind (next_row left.read left.rows) (λ next. Ok (next.0, left_of next.1 (left.read + 1))) p e (λ next taken made.
    let t = next-takes left.read left.rows next.1 next.0 taken in
    subst (λ (q : Row × Left). LineTaken left q) (ok_is (next.0, left_of next.1 (left.read + 1)) p made) (record { rows = t.0; ended = t.1 }))

pub line-again : (left : Left) (row : Row) (rest : List Row) → left.rows ≡ row ∷ rest → row.ended ≡ true → next_left left ≡ Ok (row, left_of rest (left.read + 1))
unfolding next_left
line-again left row rest e ended = rw (e, next-again left.read row rest ended) refl

-- a line with these words is a section of one line
pub one_line : (left : Left) (p : Row × Left) (ws : List (List ℕ)) → LineTaken left p → words p.0 ≡ ws → Followed left.rows (ws ∷ []) p.1.rows
one_line left p ws taken e = subst (λ (rows : List Row). Followed rows (ws ∷ []) p.1.rows) (sym taken.rows) (record { ended = taken.ended; words = e }, refl)

-- and it stands in front of a section
pub line_then : (left : Left) (p : Row × Left) (ws : List (List ℕ)) (lines : List (List (List ℕ))) (rest : List Row)
    → LineTaken left p → words p.0 ≡ ws → Followed p.1.rows lines rest → Followed left.rows (ws ∷ lines) rest
line_then left p ws lines rest taken e others = subst (λ (rows : List Row). Followed rows (ws ∷ lines) rest) (sym taken.rows) (record { ended = taken.ended; words = e }, others)
