-- The lines of a file from the second on: one for each item, and then the line `end`.
use Rattle.std.specs.Prelude.{ℕ, ◌+◌, List, [], ◌∷◌, ◌++◌, Bool, ◌&&◌, fold, codes, Result, Ok, Err, if◌then◌else◌}
use Rattle.rl_text.specs.declared.causes.Refusal.{Refusal}
use Rattle.rl_text.specs.declared.causes.Why.{Why}
use Rattle.rl_text.specs.Rows.{Row}
use Rattle.rl_text.specs.Reading.{◌>>=◌, refusal_at, whole, begins, end_at, no_end}

-- word n passes a test, and is refused for this cause where it doesn't
abbrev pub passed_at : Row → ℕ → Why → Bool → Result (Unit {0}) Refusal
passed_at row n why passes = if passes then Ok tt else Err (refusal_at row n why)

-- how items are read: what a line is in a state, the state after an item, and whether the line `end` may come
pub record Items (S X : Type 0) : Type 0 where
  pub item : S → Row → Result X Refusal
  pub next : S → X → S
  pub may_end : S → Bool

-- items up to the line `end`, after which nothing follows
unfoldable pub body_at : {S X : Type 0} → Items S X → S → ℕ → List Row → Result (List X) Refusal
body_at items state read [] = Err (no_end read)
body_at items state read (row ∷ rows) = do
  there ← whole row
  if items.may_end state && begins there (codes "end")
      then (end_at there rows >>= λ alone. Ok [])
      else (items.item state there >>= λ x. body_at items (items.next state x) (read + 1) rows >>= λ xs. Ok (x ∷ xs))

-- the lines that spell the items
abbrev pub body_lines : List (List (List ℕ)) → List (List (List ℕ))
body_lines lines = lines ++ (codes "end" ∷ []) ∷ []

-- what is gathered of the items, one after the other
abbrev pub gathered : {A X : Type 0} → (A → X → A) → A → Result (List X) Refusal → Result A Refusal
gathered add first read = read >>= λ xs. Ok (fold add first xs)
