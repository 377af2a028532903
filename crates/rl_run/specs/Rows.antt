-- Seats in rows and columns: a row for each rank, in which one seat for each shard stands, in the order of the shards. What is said
-- here holds of any seats and shards; P says which seat may stand at a shard in a rank's row.
use Rattle.std.specs.Prelude.{◌≡◌, ℕ, List, [], ◌∷◌, ◌++◌, length, take, drop, map, slice_get, Some}

module _ {W T : Type 0} (P : W → ℕ → T → Type 0) where
  -- a rank's seats, one for each shard, in their order
  pub record IsRow (ws : List W) (r : ℕ) (row : List T) : Type 0 where
    pub long : length row ≡ length ws
    pub each : (s : ℕ) (w : W) (t : T) → slice_get ws s ≡ Some w → slice_get row s ≡ Some t → P w r t

  -- a row for each rank, in their order
  abbrev pub IsGrid : List W → List (List T) → Type 0
  IsGrid ws rows = (r : ℕ) (row : List T) → slice_get rows r ≡ Some row → IsRow ws r row

  -- the seats of one shard, in the order of the ranks
  abbrev pub IsColumn : W → List T → Type 0
  IsColumn w column = (r : ℕ) (t : T) → slice_get column r ≡ Some t → P w r t

module _ {T : Type 0} where
  -- the first seat of each row: the column of the first shard
  abbrev pub heads : List (List T) → List T
  heads [] = []
  heads (row ∷ rows) = take 1 row ++ heads rows

  -- and the rows without them
  abbrev pub tails : List (List T) → List (List T)
  tails rows = map (drop 1) rows

  -- a seat more at the end of each row
  abbrev pub with_column : List (List T) → List T → List (List T)
  with_column [] ts = []
  with_column (row ∷ rows) [] = []
  with_column (row ∷ rows) (t ∷ ts) = (row ++ t ∷ []) ∷ with_column rows ts

-- what is said of each shard at its end, by the seats of its column
module _ {W T E : Type 0} (Q : W → List T → E → Type 0) where
  abbrev pub AreEnded : List W → List (List T) → List E → Type 0
  AreEnded [] rows [] = Unit {0}
  AreEnded [] rows (e ∷ es) = ⊥
  AreEnded (w ∷ ws) rows [] = ⊥
  AreEnded (w ∷ ws) rows (e ∷ es) = Q w (heads rows) e × AreEnded ws (tails rows) es
