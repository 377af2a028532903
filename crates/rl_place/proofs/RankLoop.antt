-- The lines of the ranks one after the other, as the loop reads them.
use Rattle.std.proofs.Common.{◌≡◌, ℕ, ◌+◌, true, false, cond, List, [], ◌∷◌, ◌++◌, length, codes, Result, Ok, Err, refl, sym, ◌∙◌}
use Rattle.std.proofs.lemmas.List.{length-append}
use Rattle.rl_text.specs.declared.causes.Refusal.{Refusal}
use Rattle.rl_text.specs.Rows.{Row, Left}
use Rattle.rl_text.specs.Reading.{◌>>=◌, whole, next_left, next_row, next_begins}
use Rattle.rl_place.specs.declared.path.Path.{Path}
use Rattle.rl_place.specs.Reading.{rank_at, ranks_from}
use Rattle.rl_place.proofs.Fronts.{with_lines, with_lines-one}

-- what reading does after a rank line
abbrev pub after_rank : ℕ → ℕ → Path → Left → Result (List Path × Left) Refusal
after_rank levels next path left =
    cond (next_begins left.rows (codes "home"))
    (Ok (path ∷ [], left))
    (ranks_from levels (next + 1) left.read left.rows >>= λ others. Ok (path ∷ others.0, others.1))

-- what reading does with a rank line
abbrev pub at_rank : ℕ → ℕ → Row × Left → Result (List Path × Left) Refusal
at_rank levels next line = rank_at line.0 levels next >>= λ path. after_rank levels next path line.1

abbrev left_of : List Row → ℕ → Left
left_of rows read = record { rows = rows; read = read }

abbrev next_of : List Row → ℕ → Row × List Row → Result (Row × Left) Refusal
next_of rows read p = Ok (p.0, left_of p.1 (read + 1))

there_of : List Row → Row → Result (Row × List Row) Refusal
there_of rows there = Ok (there, rows)

pub step : (levels next read : ℕ) (rows : List Row) → ranks_from levels next read rows ≡ (next_left (left_of rows read) >>= at_rank levels next)
unfolding ranks_from next_left next_row there_of
step levels next read [] = refl
step levels next read (row ∷ rows) = unwrap (whole row)
  where
    unwrap : (w : Result Row Refusal) → (w >>= λ line. at_rank levels next (line, left_of rows (read + 1))) ≡ (((w >>= there_of rows) >>= next_of rows read) >>= at_rank levels next)
    unwrap (Ok line) = refl
    unwrap (Err f) = refl

pub no_line : (levels : ℕ) (left : Left) (front : List Path) (f : Refusal) (total : Result (List Path × Left) Refusal)
    → with_lines front (ranks_from levels (length front) left.read left.rows) ≡ total → next_left left ≡ Err f → total ≡ Err f
no_line levels left front f total so_far e = sym so_far ∙ rw (step levels (length front) left.read left.rows, e) refl

pub bad_rank : (levels next : ℕ) (left more : Left) (row : Row) (front : List Path) (f : Refusal) (total : Result (List Path × Left) Refusal)
    → with_lines front (ranks_from levels (length front) left.read left.rows) ≡ total → next_left left ≡ Ok (row, more) → next ≡ length front → rank_at row levels next ≡ Err f → total ≡ Err f
bad_rank levels next left more row front f total so_far e same bad = sym so_far ∙ rw (step levels (length front) left.read left.rows, e, (rw same at bad)) refl

pub last : (levels next : ℕ) (left more : Left) (row : Row) (front : List Path) (path : Path) (total : Result (List Path × Left) Refusal)
    → with_lines front (ranks_from levels (length front) left.read left.rows) ≡ total → next_left left ≡ Ok (row, more) → next ≡ length front → rank_at row levels next ≡ Ok path
    → next_begins more.rows (codes "home") ≡ true → total ≡ Ok (front ++ path ∷ [], more)
last levels next left more row front path total so_far e same good home = sym so_far ∙ rw (step levels (length front) left.read left.rows, e, (rw same at good), home) refl

pub goes_on : (levels next : ℕ) (left more : Left) (row : Row) (front : List Path) (path : Path) (total : Result (List Path × Left) Refusal)
    → with_lines front (ranks_from levels (length front) left.read left.rows) ≡ total → next_left left ≡ Ok (row, more) → next ≡ length front → rank_at row levels next ≡ Ok path
    → next_begins more.rows (codes "home") ≡ false → with_lines (front ++ path ∷ []) (ranks_from levels (length (front ++ path ∷ [])) more.read more.rows) ≡ total
goes_on levels next left more row front path total so_far e same good other =
    let count : length (front ++ path ∷ []) ≡ length front + 1 = length-append front (path ∷ []) in
    let one : with_lines front (ranks_from levels (length front) left.read left.rows) ≡ with_lines (front ++ path ∷ []) (ranks_from levels (length front + 1) more.read more.rows) =
    rw (step levels (length front) left.read left.rows, e, (rw same at good), other) (with_lines-one front path (ranks_from levels (length front + 1) more.read more.rows)) in
    rw count (sym one ∙ so_far)
