-- Lines that are passed one after the other.
use Rattle.std.proofs.Common.{◌≡◌, ℕ, ◌+◌, ◌-◌, ◌≤◌, List, drop, ap, ◌∙◌, arith}
use Rattle.std.proofs.lemmas.List.{drop-drop}
use Rattle.rl_text.specs.Rows.{Row}

-- past one line more
pub passes_one : (rows left : List Row) (n : ℕ) → 1 ≤ n → left ≡ drop (n - 1) rows → drop 1 left ≡ drop (n + 1 - 1) rows
passes_one rows left n some is = ap (drop 1) is ∙ drop-drop 1 (n - 1) rows ∙ ap (λ k. drop k rows) (omega arith)
