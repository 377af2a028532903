-- One shard after the other is closed, each with the first seat of each row.
use Rattle.std.proofs.Common.{◌≡◌, ℕ, List, [], ◌∷◌, ◌++◌, length, map, All, sym, ap, subst, ◌∙◌, arith}
use Rattle.std.proofs.lemmas.List.{length-map}
use Rattle.std.proofs.lemmas.List.Elements.{All-head, All-tail}
use Rattle.rl_run.specs.Rows.{IsGrid, IsColumn, heads, tails, AreEnded}
use Rattle.rl_run.specs.laws.RowLaws.{EndsSoFar, first_column, other_columns, goes_next, goes_end, heads_long, rows_some, no_rows}

-- the rows in turn are as many as the rows
pub first_rooted : {W T X Y : Type 0} (f : X → List T) (h : Y → List T) (Root : ℕ → W → Type 0) (ws : List W) (rows : List X) (turns : List Y) (n m : ℕ) → All (Root n) ws → n ≡ length rows → m ≡ length turns → map h turns ≡ map f rows → All (Root m) ws
first_rooted f h Root ws rows turns n m rooted en em is =
    let long : m ≡ n = em ∙ sym (length-map turns h) ∙ ap length is ∙ length-map rows f ∙ sym en in
    subst (λ k. All (Root k) ws) (sym long) rooted

module _ {W T E X : Type 0} (f : X → List T) (P : W → ℕ → T → Type 0) (Root : ℕ → W → Type 0) (Q : W → List T → E → Type 0) (ws rest : List W) (w : W) (rows : List X) where
  pub column_seats : (column : List T) → ws ≡ w ∷ rest → IsGrid P ws (map f rows) → column ≡ heads (map f rows) → IsColumn P w column
  column_seats column more grid first =
      subst (IsColumn P w) (sym first) (first_column P w rest (map f rows) (subst (λ l. IsGrid P l (map f rows)) more grid))

  pub column_rooted : (column : List T) (n m : ℕ) → ws ≡ w ∷ rest → All (Root n) ws → IsGrid P ws (map f rows) → column ≡ heads (map f rows) → n ≡ length rows → m ≡ length column → Root m w
  column_rooted column n m more rooted grid first en em =
      let some = rows_some P w rest (map f rows) (subst (λ l. IsGrid P l (map f rows)) more grid) in
      let long : m ≡ n = em ∙ ap length first ∙ heads_long P (map f rows) some ∙ length-map rows f ∙ sym en in
      subst (λ k. Root k w) (sym long) (All-head (Root n) w rest (subst (All (Root n)) more rooted))

  pub others_rooted : (others : List X) (n m : ℕ) → ws ≡ w ∷ rest → All (Root n) ws → n ≡ length rows → m ≡ length others → map f others ≡ tails (map f rows) → All (Root m) rest
  others_rooted others n m more rooted en em is =
      let long : m ≡ n = em ∙ sym (length-map others f) ∙ ap length is ∙ no_rows P (map f rows) ∙ length-map rows f ∙ sym en in
      subst (λ k. All (Root k) rest) (sym long) (All-tail (Root n) w rest (subst (All (Root n)) more rooted))

  pub others_grid : (others : List X) → ws ≡ w ∷ rest → IsGrid P ws (map f rows) → map f others ≡ tails (map f rows) → IsGrid P rest (map f others)
  others_grid others more grid is = subst (IsGrid P rest) (sym is) (other_columns P w rest (map f rows) (subst (λ l. IsGrid P l (map f rows)) more grid))

  pub goes_more : (ws0 : List W) (rows0 : List (List T)) (others : List X) (column : List T) (ends : List E) (end : E) → ws ≡ w ∷ rest → EndsSoFar Q ws0 rows0 ws (map f rows) ends → column ≡ heads (map f rows) →
      map f others ≡ tails (map f rows) → Q w column end → EndsSoFar Q ws0 rows0 rest (map f others) (ends ++ end ∷ [])
  goes_more ws0 rows0 others column ends end more on first is q =
      subst (λ l. EndsSoFar Q ws0 rows0 rest l (ends ++ end ∷ [])) (sym is)
      (goes_next Q ws0 rows0 w rest (map f rows) ends end (subst (λ l. EndsSoFar Q ws0 rows0 l (map f rows) ends) more on) (subst (λ l. Q w l end) first q))

pub goes_all : {W T E : Type 0} (Q : W → List T → E → Type 0) (ws0 : List W) (rows0 : List (List T)) (ws : List W) (rows : List (List T)) (ends : List E) → length ws ≡ 0 → EndsSoFar Q ws0 rows0 ws rows ends → AreEnded Q ws0 rows0 ends
goes_all Q ws0 rows0 [] rows ends none on = goes_end Q ws0 rows0 rows ends on
goes_all Q ws0 rows0 (w ∷ ws) rows ends none on = absurd (omega arith)
