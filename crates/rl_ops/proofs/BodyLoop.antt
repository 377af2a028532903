-- Reading items one after the other, as a loop does. `total` is what reading from the first line on gives.
use Rattle.std.proofs.Common.{◌≡◌, ℕ, ◌+◌, true, false, ◌&&◌, List, [], ◌∷◌, codes, Result, Ok, Err, refl, sym, ◌∙◌}
use Rattle.std.specs.Prelude.{if◌then◌else◌}
use Rattle.rl_text.specs.declared.causes.Refusal.{Refusal}
use Rattle.rl_text.specs.Rows.{Row}
use Rattle.rl_text.specs.Reading.{◌>>=◌, begins, whole, next_row, end_at}
use Rattle.rl_text.proofs.FromLaws.{bind_assoc}
use Rattle.rl_ops.specs.Body.{Items, body_at, gathered}

-- what reading does from a line on
abbrev from_line : {S X : Type 0} → Items S X → S → ℕ → Row → List Row → Result (List X) Refusal
from_line items state read row rows =
    if items.may_end state && begins row (codes "end")
    then (end_at row rows >>= λ alone. Ok [])
    else (items.item state row >>= λ x. body_at items (items.next state x) (read + 1) rows >>= λ xs. Ok (x ∷ xs))

step : {S X : Type 0} (items : Items S X) (state : S) (read : ℕ) (rows : List Row)
    → body_at items state read rows ≡ (next_row read rows >>= λ p. from_line items state read p.0 p.1)
unfolding body_at next_row
step items state read [] = refl
step items state read (row ∷ rows) = sym (bind_assoc (whole row) (λ there. Ok (there, rows)) (λ p. from_line items state read p.0 p.1))

at_line : {S X : Type 0} (items : Items S X) (state : S) (read : ℕ) (rows more : List Row) (row : Row)
    → next_row read rows ≡ Ok (row, more) → body_at items state read rows ≡ from_line items state read row more
at_line items state read rows more row e = rw (step items state read rows, e) refl

-- there is no further line
pub no_line : {A S X : Type 0} (items : Items S X) (add : A → X → A) (first : A) (state : S) (read : ℕ) (rows : List Row) (f : Refusal) (total : Result A Refusal)
    → gathered add first (body_at items state read rows) ≡ total → next_row read rows ≡ Err f → total ≡ Err f
no_line items add first state read rows f total so_far e = sym so_far ∙ rw (step items state read rows, e) refl

-- the line `end` is wrong, or isn't the last
pub bad_end : {A S X : Type 0} (items : Items S X) (add : A → X → A) (first : A) (state : S) (read : ℕ) (rows more : List Row) (row : Row) (f : Refusal) (total : Result A Refusal)
    → gathered add first (body_at items state read rows) ≡ total → next_row read rows ≡ Ok (row, more) → (items.may_end state && begins row (codes "end")) ≡ true → end_at row more ≡ Err f → total ≡ Err f
bad_end items add first state read rows more row f total so_far e b bad = sym so_far ∙ rw (at_line items state read rows more row e, b, bad) refl

-- the line `end` is the last
pub good_end : {A S X : Type 0} (items : Items S X) (add : A → X → A) (first : A) (state : S) (read : ℕ) (rows more : List Row) (row : Row) (total : Result A Refusal)
    → gathered add first (body_at items state read rows) ≡ total → next_row read rows ≡ Ok (row, more) → (items.may_end state && begins row (codes "end")) ≡ true → end_at row more ≡ Ok tt → total ≡ Ok first
good_end items add first state read rows more row total so_far e b good = sym so_far ∙ rw (at_line items state read rows more row e, b, good) refl

-- the line is no item
pub bad_item : {A S X : Type 0} (items : Items S X) (add : A → X → A) (first : A) (state : S) (read : ℕ) (rows more : List Row) (row : Row) (f : Refusal) (total : Result A Refusal)
    → gathered add first (body_at items state read rows) ≡ total → next_row read rows ≡ Ok (row, more) → (items.may_end state && begins row (codes "end")) ≡ false → items.item state row ≡ Err f → total ≡ Err f
bad_item items add first state read rows more row f total so_far e b bad = sym so_far ∙ rw (at_line items state read rows more row e, b, bad) refl

regroup : {A X : Type 0} (add : A → X → A) (first : A) (x : X) (read : Result (List X) Refusal) → gathered add first (read >>= λ xs. Ok (x ∷ xs)) ≡ gathered add (add first x) read
regroup add first x (Ok xs) = refl
regroup add first x (Err f) = refl

-- the line is an item, and is gathered
pub goes_on : {A S X : Type 0} (items : Items S X) (add : A → X → A) (first : A) (state : S) (read : ℕ) (rows more : List Row) (row : Row) (x : X) (total : Result A Refusal)
    → gathered add first (body_at items state read rows) ≡ total → next_row read rows ≡ Ok (row, more) → (items.may_end state && begins row (codes "end")) ≡ false → items.item state row ≡ Ok x
    → gathered add (add first x) (body_at items (items.next state x) (read + 1) more) ≡ total
goes_on items add first state read rows more row x total so_far e b good =
    let one : gathered add first (body_at items state read rows) ≡ gathered add (add first x) (body_at items (items.next state x) (read + 1) more) =
    rw (at_line items state read rows more row e, b, good) (regroup add first x (body_at items (items.next state x) (read + 1) more)) in
    sym one ∙ so_far
