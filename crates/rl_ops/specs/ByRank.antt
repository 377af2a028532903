-- What each rank has, of things that are told with their rank.
use Rattle.std.specs.Prelude.{ℕ, zero, suc, ◌+◌, List, [], ◌∷◌, ◌++◌, ◌==◌, if◌then◌else◌}

module _ {X : Type 0} where
  -- what one rank has, in its order
  abbrev pub of_rank : ℕ → List (ℕ × X) → List X
  of_rank rank [] = []
  of_rank rank (x ∷ xs) = if x.0 == rank then x.1 ∷ of_rank rank xs else of_rank rank xs

  -- what n ranks from one on have
  abbrev pub lists_from : ℕ → ℕ → List (ℕ × X) → List (List X)
  lists_from rank zero xs = []
  lists_from rank (suc n) xs = of_rank rank xs ∷ lists_from (rank + 1) n xs

  -- what each rank has
  abbrev pub by_rank : ℕ → List (ℕ × X) → List (List X)
  by_rank ranks xs = lists_from 0 ranks xs

  -- one thing more of a rank
  abbrev pub with_item : List (List X) → ℕ → X → List (List X)
  with_item [] rank x = []
  with_item (xs ∷ lists) zero x = (xs ++ x ∷ []) ∷ lists
  with_item (xs ∷ lists) (suc rank) x = xs ∷ with_item lists rank x
