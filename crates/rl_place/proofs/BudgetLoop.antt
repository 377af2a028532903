-- The budgets of a line one after the other, as the loop reads them.
use Rattle.std.proofs.Common.{◌≡◌, ℕ, suc, ◌+◌, ◌-◌, ◌<◌, ◌≤◌, List, [], ◌∷◌, ◌++◌, Result, Ok, Err, refl, sym, ◌∙◌, arith}
use Rattle.std.proofs.lemmas.List.{append-nil}
use Rattle.rl_text.specs.declared.causes.Refusal.{Refusal}
use Rattle.rl_text.specs.Rows.{Row}
use Rattle.rl_text.specs.Reading.{◌>>=◌, between_at}
use Rattle.rl_place.specs.declared.limits.TheConstants.{MOST_BUDGET}
use Rattle.rl_place.specs.Reading.{budgets_from}
use Rattle.rl_place.proofs.Fronts.{with_front, with_front-one}

one_more : (row : Row) (n i count : ℕ) → i < count → budgets_from row (n + i) (count - i) ≡ (between_at row (n + i) 0 MOST_BUDGET >>= λ budget. budgets_from row (n + (i + 1)) (count - (i + 1)) >>= λ budgets. Ok (budget ∷ budgets))
unfolding budgets_from
one_more row n i count more =
    let left : count - i ≡ suc (count - (i + 1)) = omega arith in
    let next : n + i + 1 ≡ n + (i + 1) = omega arith in
    rw (left, next) refl

pub fails : (row : Row) (n i count : ℕ) (front : List ℕ) (f : Refusal) (total : Result (List ℕ) Refusal)
    → with_front front (budgets_from row (n + i) (count - i)) ≡ total → i < count → between_at row (n + i) 0 MOST_BUDGET ≡ Err f → total ≡ Err f
fails row n i count front f total so_far more e = sym so_far ∙ rw (one_more row n i count more, e) refl

pub goes_on : (row : Row) (n i count budget : ℕ) (front : List ℕ) (total : Result (List ℕ) Refusal)
    → with_front front (budgets_from row (n + i) (count - i)) ≡ total → i < count → between_at row (n + i) 0 MOST_BUDGET ≡ Ok budget
    → with_front (front ++ budget ∷ []) (budgets_from row (n + (i + 1)) (count - (i + 1))) ≡ total
goes_on row n i count budget front total so_far more e =
    let one : with_front front (budgets_from row (n + i) (count - i)) ≡ with_front (front ++ budget ∷ []) (budgets_from row (n + (i + 1)) (count - (i + 1))) =
    rw (one_more row n i count more, e) (with_front-one front budget (budgets_from row (n + (i + 1)) (count - (i + 1)))) in
    sym one ∙ so_far

pub ends_so : (row : Row) (n i count : ℕ) (front : List ℕ) (total : Result (List ℕ) Refusal)
    → with_front front (budgets_from row (n + i) (count - i)) ≡ total → count ≤ i → total ≡ Ok front
unfolding budgets_from
ends_so row n i count front total so_far most =
    let none : count - i ≡ 0 = omega arith in
    sym so_far ∙ rw (none, append-nil front) refl
