-- The home lines one after the other, as the loop reads them.
use Rattle.std.proofs.Common.{◌≡◌, ℕ, suc, ◌+◌, ◌-◌, ◌<◌, ◌≤◌, List, [], ◌∷◌, ◌++◌, Result, Ok, Err, refl, sym, ◌∙◌, arith}
use Rattle.std.proofs.lemmas.List.{append-nil}
use Rattle.rl_text.specs.declared.causes.Refusal.{Refusal}
use Rattle.rl_text.specs.Rows.{Row, Left}
use Rattle.rl_text.specs.Reading.{◌>>=◌, next_left}
use Rattle.rl_place.specs.declared.path.Path.{Path}
use Rattle.rl_place.specs.Reading.{home_at, homes_from}
use Rattle.rl_place.proofs.Fronts.{with_lines, with_lines-one}

one_more : (levels : ℕ) (nodes : List Path) (shards i : ℕ) (left : Left) → i < shards
    → homes_from levels nodes shards i (shards - i) left ≡ (next_left left >>= λ line. home_at line.0 levels nodes shards i >>= λ node. homes_from levels nodes shards (i + 1) (shards - (i + 1)) line.1 >>= λ others. Ok (node ∷ others.0, others.1))
unfolding homes_from
one_more levels nodes shards i left more =
    let count : shards - i ≡ suc (shards - (i + 1)) = omega arith in
    rw count refl

pub no_line : (levels : ℕ) (nodes : List Path) (shards i : ℕ) (left : Left) (front : List ℕ) (f : Refusal) (total : Result (List ℕ × Left) Refusal)
    → with_lines front (homes_from levels nodes shards i (shards - i) left) ≡ total → i < shards → next_left left ≡ Err f → total ≡ Err f
no_line levels nodes shards i left front f total so_far more e = sym so_far ∙ rw (one_more levels nodes shards i left more, e) refl

pub bad_home : (levels : ℕ) (nodes : List Path) (shards i : ℕ) (left after : Left) (row : Row) (front : List ℕ) (f : Refusal) (total : Result (List ℕ × Left) Refusal)
    → with_lines front (homes_from levels nodes shards i (shards - i) left) ≡ total → i < shards → next_left left ≡ Ok (row, after) → home_at row levels nodes shards i ≡ Err f → total ≡ Err f
bad_home levels nodes shards i left after row front f total so_far more e bad = sym so_far ∙ rw (one_more levels nodes shards i left more, e, bad) refl

pub goes_on : (levels : ℕ) (nodes : List Path) (shards i : ℕ) (left after : Left) (row : Row) (front : List ℕ) (node : ℕ) (total : Result (List ℕ × Left) Refusal)
    → with_lines front (homes_from levels nodes shards i (shards - i) left) ≡ total → i < shards → next_left left ≡ Ok (row, after) → home_at row levels nodes shards i ≡ Ok node
    → with_lines (front ++ node ∷ []) (homes_from levels nodes shards (i + 1) (shards - (i + 1)) after) ≡ total
goes_on levels nodes shards i left after row front node total so_far more e good =
    let one : with_lines front (homes_from levels nodes shards i (shards - i) left) ≡ with_lines (front ++ node ∷ []) (homes_from levels nodes shards (i + 1) (shards - (i + 1)) after) =
    rw (one_more levels nodes shards i left more, e, good) (with_lines-one front node (homes_from levels nodes shards (i + 1) (shards - (i + 1)) after)) in
    sym one ∙ so_far

pub ends_so : (levels : ℕ) (nodes : List Path) (shards i : ℕ) (left : Left) (front : List ℕ) (total : Result (List ℕ × Left) Refusal)
    → with_lines front (homes_from levels nodes shards i (shards - i) left) ≡ total → shards ≤ i → total ≡ Ok (front, left)
unfolding homes_from
ends_so levels nodes shards i left front total so_far most =
    let none : shards - i ≡ 0 = omega arith in
    sym so_far ∙ rw (none, append-nil front) refl
