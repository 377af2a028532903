-- What rows say of their columns; a column more; and shards that end one after the other.
use Rattle.std.specs.Prelude.{◌≡◌, ℕ, zero, suc, ◌<◌, List, [], ◌∷◌, ◌++◌, length, drop, map, slice_get, slice_set, Some, refl}
use Rattle.std.specs.List.{remove}
use Rattle.std.proofs.Common.{sym, ◌∙◌, ap, subst, arith, ⊎_elim, length-append, append_assoc, get_or}
use Rattle.std.proofs.lemmas.List.{length-map, append-nil}
use Rattle.std.proofs.lemmas.Option.{same_Some}
use lib.ListN.{length-set}
use Rattle.rl_word.specs.laws.Places.{get_map_back, get_set_cases}
use Rattle.rl_journal.specs.laws.Lists.{get_more_cases}
use Rattle.rl_run.specs.Rows.{IsRow, IsGrid, IsColumn, heads, tails, AreEnded, with_column}

-- ---- from rows to columns

module _ {W T : Type 0} (P : W → ℕ → T → Type 0) where
  -- a seat of the first column is the first of its row
  head_row : (rows : List (List T)) → ((r : ℕ) (row : List T) → slice_get rows r ≡ Some row → 0 < length row) → (r : ℕ) (t : T) → slice_get (heads rows) r ≡ Some t →
      (row : List T) × (slice_get rows r ≡ Some row) × (slice_get row 0 ≡ Some t)
  head_row [] some r t e = absurd (cc)
  head_row ([] ∷ rows) some r t e = absurd (let h = some 0 [] refl in omega arith)
  head_row ((x ∷ row) ∷ rows) some zero t e = (x ∷ row, refl, e)
  head_row ((x ∷ row) ∷ rows) some (suc r) t e = head_row rows (λ i y g. some (suc i) y g) r t e

  pub heads_long : (rows : List (List T)) → ((r : ℕ) (row : List T) → slice_get rows r ≡ Some row → 0 < length row) → length (heads rows) ≡ length rows
  heads_long [] some = refl
  heads_long ([] ∷ rows) some = absurd (let h = some 0 [] refl in omega arith)
  heads_long ((x ∷ row) ∷ rows) some = ap suc (heads_long rows (λ i y g. some (suc i) y g))

  pub rows_some : (w : W) (ws : List W) (rows : List (List T)) → IsGrid P (w ∷ ws) rows → (r : ℕ) (row : List T) → slice_get rows r ≡ Some row → 0 < length row
  rows_some w ws rows G r row g = let l = (G r row g).long in omega arith

  pub first_column : (w : W) (ws : List W) (rows : List (List T)) → IsGrid P (w ∷ ws) rows → IsColumn P w (heads rows)
  first_column w ws rows G r t e =
      let q = head_row rows (rows_some w ws rows G) r t e in
      (G r q.0 q.1).each 0 w t refl q.2

  get_tail : (row : List T) (s : ℕ) → slice_get (drop 1 row) s ≡ slice_get row (suc s)
  get_tail [] s = refl
  get_tail (x ∷ row) s = refl

  pub tail_long : (row : List T) (n : ℕ) → length row ≡ suc n → length (drop 1 row) ≡ n
  tail_long [] n e = absurd (omega arith)
  tail_long (x ∷ row) n e = omega arith

  pub other_columns : (w : W) (ws : List W) (rows : List (List T)) → IsGrid P (w ∷ ws) rows → IsGrid P ws (tails rows)
  other_columns w ws rows G r row e =
      let q = get_map_back (drop 1) rows r row e in
      let R = G r q.0 q.1 in
      subst (IsRow P ws r) q.2
      (record { long = tail_long q.0 (length ws) R.long; each = λ s v t gs gt. R.each (suc s) v t gs (sym (get_tail q.0 s) ∙ gt) })

  -- the row stays one where one seat went on
  pub row_after : (ws : List W) (r : ℕ) (row : List T) (s : ℕ) (w : W) (t : T) → IsRow P ws r row → slice_get ws s ≡ Some w → P w r t → IsRow P ws r (slice_set row s t)
  row_after ws r row s w t R gw p =
      record {
        long = length-set row s t ∙ R.long;
        each = λ i v u gv gu. ⊎_elim
            (λ (q : (i ≡ s) × (u ≡ t)).
            let same : w ≡ v = same_Some _ _ (sym gw ∙ ap (slice_get ws) (sym q.0) ∙ gv) in
            subst (λ z. P z r u) same (subst (P w r) (sym q.1) p))
            (λ q. R.each i v u gv q.1) (get_set_cases row s i t u gu);
      }

  pub no_rows : (rows : List (List T)) → length (tails rows) ≡ length rows
  no_rows rows = length-map rows (drop 1)

  -- ---- a column more

  -- what stands in the rows with one seat more
  dealt_at : (rows : List (List T)) (ts : List T) → length ts ≡ length rows → (r : ℕ) (row : List T) → slice_get (with_column rows ts) r ≡ Some row →
      (old : List T) × (t : T) × (slice_get rows r ≡ Some old) × (slice_get ts r ≡ Some t) × (old ++ t ∷ [] ≡ row)
  dealt_at [] ts long r row e = absurd (cc)
  dealt_at (x ∷ rows) [] long r row e = absurd (omega arith)
  dealt_at (x ∷ rows) (t ∷ ts) long zero row e = (x, t, refl, refl, same_Some _ _ e)
  dealt_at (x ∷ rows) (t ∷ ts) long (suc r) row e = dealt_at rows ts (omega arith) r row e

  pub with_column_long : (rows : List (List T)) (ts : List T) → length ts ≡ length rows → length (with_column rows ts) ≡ length rows
  with_column_long [] ts e = refl
  with_column_long (row ∷ rows) [] e = absurd (omega arith)
  with_column_long (row ∷ rows) (t ∷ ts) e = ap suc (with_column_long rows ts (omega arith))

  -- the seats of one shard more, in the order of the ranks
  pub grid_more : (ws : List W) (rows : List (List T)) (w : W) (column : List T) → IsGrid P ws rows → IsColumn P w column → length column ≡ length rows →
      IsGrid P (ws ++ w ∷ []) (with_column rows column)
  grid_more ws rows w column G C long r row e =
      let q = dealt_at rows column long r row e in
      let R = G r q.0 q.2 in
      let same = R.long in
      subst (IsRow P (ws ++ w ∷ []) r) q.4
      (record {
        long = omega (arith, length-append q.0 (q.1 ∷ []), length-append ws (w ∷ []));
        each = λ s v t gv gt. ⊎_elim
            (λ old. ⊎_elim (λ was. R.each s v t was.1 old.1) (λ bad. absurd (let h = old.0 in let b = bad.0 in omega arith)) (get_more_cases ws w s v gv))
            (λ new. ⊎_elim (λ bad. absurd (let h = bad.0 in let n = new.0 in omega arith)) (λ now. subst (λ z. P z r t) now.1 (subst (P w r) new.1 (C r q.1 q.3))) (get_more_cases ws w s v gv))
            (get_more_cases q.0 q.1 s t gt);
      })

-- ---- shards end one after the other

-- What is known of ends so far: whatever the ends of the other shards are, all are ended.
module _ {W T E : Type 0} (Q : W → List T → E → Type 0) where
  abbrev pub EndsSoFar : List W → List (List T) → List W → List (List T) → List E → Type 0
  EndsSoFar ws0 rows0 ws rows ends = (es : List E) → AreEnded Q ws rows es → AreEnded Q ws0 rows0 (ends ++ es)

  pub goes_next : (ws0 : List W) (rows0 : List (List T)) (w : W) (ws : List W) (rows : List (List T)) (ends : List E) (e : E) → EndsSoFar ws0 rows0 (w ∷ ws) rows ends → Q w (heads rows) e →
      EndsSoFar ws0 rows0 ws (tails rows) (ends ++ e ∷ [])
  goes_next ws0 rows0 w ws rows ends e g q es a = subst (AreEnded Q ws0 rows0) (sym (append_assoc ends (e ∷ []) es)) (g (e ∷ es) (q, a))

  pub goes_end : (ws0 : List W) (rows0 : List (List T)) (rows : List (List T)) (ends : List E) → EndsSoFar ws0 rows0 [] rows ends → AreEnded Q ws0 rows0 ends
  goes_end ws0 rows0 rows ends g = subst (AreEnded Q ws0 rows0) (append-nil ends) (g [] tt)

  pub ends_long : (ws : List W) (rows : List (List T)) (es : List E) → AreEnded Q ws rows es → length es ≡ length ws
  ends_long [] rows [] a = refl
  ends_long [] rows (e ∷ es) a = absurd a
  ends_long (w ∷ ws) rows [] a = absurd a
  ends_long (w ∷ ws) rows (e ∷ es) a = ap suc (ends_long ws (tails rows) es a.1)

-- the end of a shard, by its number, over a column with a seat of each row
pub ended_at : {W T E : Type 0} (P : W → ℕ → T → Type 0) (Q : W → List T → E → Type 0) (ws : List W) (rows : List (List T)) (es : List E) → IsGrid P ws rows → AreEnded Q ws rows es →
    (s : ℕ) (w : W) (e : E) → slice_get ws s ≡ Some w → slice_get es s ≡ Some e → (column : List T) × Q w column e × (length column ≡ length rows) × IsColumn P w column
ended_at P Q [] rows es G a s w e gw ge = absurd (cc)
ended_at P Q (v ∷ ws) rows [] G a s w e gw ge = absurd a
ended_at P Q (v ∷ ws) rows (f ∷ es) G a zero w e gw ge = (
  heads rows,
  subst (λ z. Q z (heads rows) e) (same_Some _ _ gw) (subst (Q v (heads rows)) (same_Some _ _ ge) a.0),
  heads_long P rows (rows_some P v ws rows G),
  subst (λ z. IsColumn P z (heads rows)) (same_Some _ _ gw) (first_column P v ws rows G),
)
ended_at P Q (v ∷ ws) rows (f ∷ es) G a (suc s) w e gw ge =
    let q = ended_at P Q ws (tails rows) es (other_columns P v ws rows G) a.1 s w e gw ge in (q.0, q.1, q.2 ∙ no_rows P rows, q.3)

-- ---- the code's lists, of which the first element is taken again and again

pub first_is : {X : Type 0} (l : List X) (x : X) → 0 < length l → x ≡ get_or l 0 x → l ≡ x ∷ remove l 0
first_is [] x h e = absurd (omega arith)
first_is (y ∷ ys) x h e = λ k. sym e k ∷ ys

-- two lists as long, that agree in something at each place
pub same_map : {X Y : Type 0} (f : X → Y) (xs ys : List X) → length ys ≡ length xs → ((i : ℕ) (d : X) → i < length xs → f (get_or ys i d) ≡ f (get_or xs i d)) → map f ys ≡ map f xs
same_map f [] [] long same = refl
same_map f [] (y ∷ ys) long same = absurd (omega arith)
same_map f (x ∷ xs) [] long same = absurd (omega arith)
same_map f (x ∷ xs) (y ∷ ys) long same =
    ap (λ z. z ∷ map f ys) (same 0 x (omega arith)) ∙ ap (λ z. f x ∷ z) (same_map f xs ys (omega arith) (λ i d h. same (suc i) d (omega arith)))

-- two lists that come to the same at each place
pub same_maps : {X Y Z : Type 0} (f : X → Z) (g : Y → Z) (xs : List X) (ys : List Y) → length xs ≡ length ys →
    ((i : ℕ) (x : X) (y : Y) → slice_get xs i ≡ Some x → slice_get ys i ≡ Some y → f x ≡ g y) → map f xs ≡ map g ys
same_maps f g [] [] e same = refl
same_maps f g [] (y ∷ ys) e same = absurd (omega arith)
same_maps f g (x ∷ xs) [] e same = absurd (omega arith)
same_maps f g (x ∷ xs) (y ∷ ys) e same = ap (λ z. z ∷ map f xs) (same 0 x y refl refl) ∙ ap (λ z. g y ∷ z) (same_maps f g xs ys (omega arith) (λ i u v a b. same (suc i) u v a b))
