-- What each rank has: one thing more at the end, and what the lists of all ranks keep.
use Rattle.std.proofs.Common.{◌≡◌, ℕ, zero, suc, ◌+◌, ◌<◌, ◌≤◌, Bool, true, false, cond, eqb, List, [], ◌∷◌, ◌++◌, length, map, replicate, get_or, refl, ap, ◌∙◌, zero-add, eq-eqb, arith}
use Rattle.std.specs.List.{sum_by}
use Rattle.std.proofs.Math.ListN.{set}
use Rattle.std.proofs.Math.Seq.{map-set_same}
use Rattle.std.proofs.lemmas.Bool.{eqb-true, ne_eqb}
use Rattle.std.proofs.lemmas.List.{append-nil}
use Rattle.std.proofs.lemmas.List.Sums.{sum_by-cons}
use Rattle.rl_ops.specs.ByRank.{of_rank, lists_from, by_rank, with_item}

-- nothing is had of nothing
lists_from-none : (X : Type 0) (from n : ℕ) → sum_by length (lists_from {X = X} from n []) ≡ 0
lists_from-none X from zero = refl
lists_from-none X from (suc n) = rw sum_by-cons (omega (arith, lists_from-none X (from + 1) n))

module _ {X : Type 0} where
  -- ---- the vectors of the code

  -- an item pushed to the list at a place
  pub item_added : {V : Type 0} (items : V → List X) (vs : List V) (i : ℕ) (old w : V) (x : X) → i < length vs → old ≡ get_or vs i old → items w ≡ items old ++ x ∷ [] → map items (set vs i w) ≡ with_item (map items vs) i x
  item_added items [] i old w x h e f = absurd (omega (arith, h))
  item_added items (v ∷ vs) zero old w x h e f =
      let same : old ≡ v = e in
      ap (λ (xs : List X). xs ∷ map items vs) (f ∙ ap (λ y. items y ++ x ∷ []) same)
  item_added items (v ∷ vs) (suc i) old w x h e f = ap (λ (lists : List (List X)). items v ∷ lists) (item_added items vs i old w x (omega arith) e f)

  -- a list that is put back as it was
  pub item_kept : {V : Type 0} (items : V → List X) (vs : List V) (i : ℕ) (old w : V) → old ≡ get_or vs i old → items w ≡ items old → map items (set vs i w) ≡ map items vs
  item_kept items vs i old w e f = map-set_same items vs i w old (f ∙ ap items e)

  -- the list at a place has at most as many items as all have
  pub list-le-total : {V : Type 0} (items : V → List X) (vs : List V) (i n : ℕ) (d : V) → i < length vs → sum_by length (map items vs) ≤ n → length (items (get_or vs i d)) ≤ n
  list-le-total items [] i n d h few = absurd (omega (arith, h))
  list-le-total items (v ∷ vs) zero n d h few =
      let total : length (items v) + sum_by length (map items vs) ≤ n = rw sum_by-cons at few in
      omega arith
  list-le-total items (v ∷ vs) (suc i) n d h few =
      let total : length (items v) + sum_by length (map items vs) ≤ n = rw sum_by-cons at few in
      list-le-total items vs i n d (omega arith) (omega arith)

  -- ---- one more at the end

  of_rank-push : (rank r : ℕ) (x : X) (xs : List (ℕ × X)) → of_rank rank (xs ++ (r, x) ∷ []) ≡ of_rank rank xs ++ cond (eqb r rank) (x ∷ []) []
  of_rank-push rank r x [] = refl
  of_rank-push rank r x (y ∷ xs) = rw (of_rank-push rank r x xs) (more (eqb y.0 rank) y.1 (of_rank rank xs) (cond (eqb r rank) (x ∷ []) []))
    where
      more : (b : Bool) (y : X) (xs ys : List X) → cond b (y ∷ (xs ++ ys)) (xs ++ ys) ≡ cond b (y ∷ xs) xs ++ ys
      more true y xs ys = refl
      more false y xs ys = refl

  -- a rank before these changes none of their lists
  lists-other : (from n r : ℕ) (x : X) (xs : List (ℕ × X)) → r < from → lists_from from n (xs ++ (r, x) ∷ []) ≡ lists_from from n xs
  lists-other from zero r x xs h = refl
  lists-other from (suc n) r x xs h =
      rw (of_rank-push from r x xs, ne_eqb r from (λ e. omega (arith, e)), lists-other (from + 1) n r x xs (omega arith)) (ap (λ (own : List X). own ∷ lists_from (from + 1) n xs) (append-nil (of_rank from xs)))

  lists-push : (from n i : ℕ) (x : X) (xs : List (ℕ × X)) → with_item (lists_from from n xs) i x ≡ lists_from from n (xs ++ (from + i, x) ∷ [])
  lists-push from zero i x xs = refl
  lists-push from (suc n) zero x xs =
      rw (of_rank-push from (from + 0) x xs, eq-eqb (from + 0) from (omega arith), lists-other (from + 1) n (from + 0) x xs (omega arith)) refl
  lists-push from (suc n) (suc i) x xs =
      let place : from + suc i ≡ from + 1 + i = omega arith in
      rw (of_rank-push from (from + suc i) x xs, ne_eqb (from + suc i) from (λ e. omega (arith, e)), append-nil (of_rank from xs), place, lists-push (from + 1) n i x xs) refl

  pub by_rank-push : (ranks rank : ℕ) (x : X) (xs : List (ℕ × X)) → with_item (by_rank ranks xs) rank x ≡ by_rank ranks (xs ++ (rank, x) ∷ [])
  by_rank-push ranks rank x xs =
      let place : 0 + rank ≡ rank = zero-add rank in
      lists-push 0 ranks rank x xs ∙ ap (λ (r : ℕ). by_rank ranks (xs ++ (r, x) ∷ [])) place

  pub lists_from-nil : (from n : ℕ) → lists_from {X = X} from n [] ≡ replicate n []
  lists_from-nil from zero = refl
  lists_from-nil from (suc n) = ap (λ (lists : List (List X)). [] ∷ lists) (lists_from-nil (from + 1) n)

  pub length-with_item : (lists : List (List X)) (rank : ℕ) (x : X) → length (with_item lists rank x) ≡ length lists
  length-with_item [] rank x = refl
  length-with_item (xs ∷ lists) zero x = refl
  length-with_item (xs ∷ lists) (suc rank) x = ap suc (length-with_item lists rank x)

  -- ---- what the lists of all ranks keep

  pub length-lists_from : (from n : ℕ) (xs : List (ℕ × X)) → length (lists_from from n xs) ≡ n
  length-lists_from from zero xs = refl
  length-lists_from from (suc n) xs = ap suc (length-lists_from (from + 1) n xs)

  -- what a rank before these has first changes none of their lists
  pub lists_from-cons : (from n r : ℕ) (x : X) (xs : List (ℕ × X)) → r < from → lists_from from n ((r, x) ∷ xs) ≡ lists_from from n xs
  lists_from-cons from zero r x xs h = refl
  lists_from-cons from (suc n) r x xs h =
      rw (ne_eqb r from (λ e. omega (arith, e)), lists_from-cons (from + 1) n r x xs (omega arith)) refl

  -- one more in the list is at most one more in all
  total-cons : (from n : ℕ) (x : ℕ × X) (xs : List (ℕ × X)) → sum_by length (lists_from from n (x ∷ xs)) ≤ sum_by length (lists_from from n xs) + 1
  total-cons from zero x xs = omega arith
  total-cons from (suc n) x xs = here (eqb x.0 from) (λ e. eqb-true x.0 from e) (total-cons (from + 1) n x xs)
    where
      here : (b : Bool) → (b ≡ true → x.0 ≡ from) → sum_by length (lists_from (from + 1) n (x ∷ xs)) ≤ sum_by length (lists_from (from + 1) n xs) + 1
          → sum_by length (cond b (x.1 ∷ of_rank from xs) (of_rank from xs) ∷ lists_from (from + 1) n (x ∷ xs)) ≤ sum_by length (of_rank from xs ∷ lists_from (from + 1) n xs) + 1
      here true same others =
          let unchanged : lists_from (from + 1) n (x ∷ xs) ≡ lists_from (from + 1) n xs = lists_from-cons (from + 1) n x.0 x.1 xs (omega (arith, same refl)) in
          let more : sum_by length ((x.1 ∷ of_rank from xs) ∷ lists_from (from + 1) n xs) ≡ length (x.1 ∷ of_rank from xs) + sum_by length (lists_from (from + 1) n xs) = sum_by-cons length (x.1 ∷ of_rank from xs) (lists_from (from + 1) n xs) in
          let before : sum_by length (of_rank from xs ∷ lists_from (from + 1) n xs) ≡ length (of_rank from xs) + sum_by length (lists_from (from + 1) n xs) = sum_by-cons length (of_rank from xs) (lists_from (from + 1) n xs) in
          rw (unchanged, more, before) (omega arith)
      here false same others =
          let more : sum_by length (of_rank from xs ∷ lists_from (from + 1) n (x ∷ xs)) ≡ length (of_rank from xs) + sum_by length (lists_from (from + 1) n (x ∷ xs)) = sum_by-cons length (of_rank from xs) (lists_from (from + 1) n (x ∷ xs)) in
          let before : sum_by length (of_rank from xs ∷ lists_from (from + 1) n xs) ≡ length (of_rank from xs) + sum_by length (lists_from (from + 1) n xs) = sum_by-cons length (of_rank from xs) (lists_from (from + 1) n xs) in
          rw (more, before) (omega (arith, others))

  -- the lists have no more in all than the list has
  pub total-le-length : (from n : ℕ) (xs : List (ℕ × X)) → sum_by length (lists_from from n xs) ≤ length xs
  total-le-length from n [] = omega (arith, lists_from-none X from n)
  total-le-length from n (x ∷ xs) = omega (arith, total-cons from n x xs, total-le-length from n xs)

  -- ---- several things of one rank

  of_rank-own : (rank : ℕ) (xs : List X) (more : List (ℕ × X)) → of_rank rank (map (λ x. (rank, x)) xs ++ more) ≡ xs ++ of_rank rank more
  of_rank-own rank [] more = refl
  of_rank-own rank (x ∷ xs) more = rw (eq-eqb rank rank refl, of_rank-own rank xs more) refl

  of_rank-other : (rank other : ℕ) (xs : List X) (more : List (ℕ × X)) → (other ≡ rank → ⊥) → of_rank rank (map (λ x. (other, x)) xs ++ more) ≡ of_rank rank more
  of_rank-other rank other [] more h = refl
  of_rank-other rank other (x ∷ xs) more h = rw (ne_eqb other rank h) (of_rank-other rank other xs more h)

  -- what a rank has after several things of one rank
  pub of_rank-several : (rank other : ℕ) (xs : List X) (more : List (ℕ × X)) → of_rank rank (map (λ x. (other, x)) xs ++ more) ≡ cond (eqb other rank) xs [] ++ of_rank rank more
  of_rank-several rank other xs more = here (eqb other rank) refl
    where
      here : (b : Bool) → eqb other rank ≡ b → of_rank rank (map (λ x. (other, x)) xs ++ more) ≡ cond b xs [] ++ of_rank rank more
      here true e =
          let same : other ≡ rank = eqb-true other rank e in
          ap (λ (r : ℕ). of_rank rank (map (λ x. (r, x)) xs ++ more)) same ∙ of_rank-own rank xs more
      here false e = of_rank-other rank other xs more (λ same. absurd (let t = eq-eqb other rank same in cc))

  lists_from-skip : (from n rank : ℕ) (xs : List X) (more : List (ℕ × X)) → rank < from → lists_from from n (map (λ x. (rank, x)) xs ++ more) ≡ lists_from from n more
  lists_from-skip from n rank [] more h = refl
  lists_from-skip from n rank (x ∷ xs) more h = lists_from-cons from n rank x (map (λ x. (rank, x)) xs ++ more) h ∙ lists_from-skip from n rank xs more h

  -- what the ranks have, rank after rank
  abbrev pub told : ℕ → List (List X) → List (ℕ × X)
  told rank [] = []
  told rank (xs ∷ lists) = map (λ x. (rank, x)) xs ++ told (rank + 1) lists

  of_rank-later : (rank from : ℕ) (lists : List (List X)) → rank < from → of_rank rank (told from lists) ≡ []
  of_rank-later rank from [] h = refl
  of_rank-later rank from (xs ∷ lists) h = of_rank-other rank from xs (told (from + 1) lists) (λ e. omega (arith, e)) ∙ of_rank-later rank (from + 1) lists (omega arith)

  -- told rank after rank, the lists are the lists
  pub lists_from-told : (from n : ℕ) (lists : List (List X)) → length lists ≡ n → lists_from from n (told from lists) ≡ lists
  lists_from-told from zero [] e = refl
  lists_from-told from zero (xs ∷ lists) e = absurd (omega (arith, e))
  lists_from-told from (suc n) [] e = absurd (omega (arith, e))
  lists_from-told from (suc n) (xs ∷ lists) e =
      rw (
        of_rank-own from xs (told (from + 1) lists),
        of_rank-later from (from + 1) lists (omega arith),
        append-nil xs,
        lists_from-skip (from + 1) n from xs (told (from + 1) lists) (omega arith),
        lists_from-told (from + 1) n lists (omega (arith, e)),
      ) refl
