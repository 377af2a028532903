-- What the calls of a source and of a sink do, where it tells its bytes.
use Rattle.std.specs.Prelude.{◌≡◌, ℕ, ◌+◌, ◌≤◌, ◌<◌, List, [], ◌++◌, length, take, drop, Option, Some, None, Bool}

-- n bytes come from the front of what is left into the front of the buffer; none exactly where none is left
pub record Comes (left : List ℕ) (n : ℕ) (old new : List ℕ) : Type 0 where
  pub within : n ≤ length left
  pub front : new ≡ take n left ++ drop n old
  pub ends : n ≡ 0 → 0 < length old → left ≡ []

-- a read of n bytes into a buffer; a source that doesn't tell what is left goes on not telling it
abbrev pub Reads : Option (List ℕ) → ℕ → List ℕ → List ℕ → Option (List ℕ) → Type 0
Reads None n old new after = after ≡ None
Reads (Some left) n old new after = Comes left n old new × (after ≡ Some (drop n left))

-- a sink that still tells its bytes told them before, and has this piece more at its end
abbrev pub Appends : Option (List ℕ) → List ℕ → Option (List ℕ) → Type 0
Appends before piece None = Unit {0}
Appends before piece (Some after) = (written : List ℕ) × (before ≡ Some written) × (after ≡ written ++ piece)

-- a sink that would tell its bytes through n more and then m tells them through m, now that the n are written
abbrev pub GoesOn : {S : Type 0} → (S → ℕ → Type 0) → S → ℕ → S → Type 0
GoesOn tells_on old n new = (m : ℕ) → tells_on old (n + m) → tells_on new m

-- the file, where told, is the bytes read so far and what is left
abbrev pub IsRead : Option (List ℕ) → List ℕ → Option (List ℕ) → Type 0
IsRead None bytes left = left ≡ None
IsRead (Some text) bytes left = (rest : List ℕ) × (left ≡ Some rest) × (text ≡ bytes ++ rest)

-- a piece came from the front of what was left, and an empty one only where nothing was
abbrev pub Gave : Option (List ℕ) → List ℕ → Option (List ℕ) → Type 0
Gave None piece after = after ≡ None
Gave (Some left) piece after = (rest : List ℕ) × (after ≡ Some rest) × (left ≡ piece ++ rest) × (piece ≡ [] → rest ≡ [])

-- what is left is a tail of what it was
abbrev pub IsTail : Option (List ℕ) → Option (List ℕ) → Type 0
IsTail None after = after ≡ None
IsTail (Some left) after = (front : List ℕ) × (rest : List ℕ) × (after ≡ Some rest) × (left ≡ front ++ rest)

-- the file, where told, is these bytes, and nothing is left
abbrev pub IsWhole : Option (List ℕ) → List ℕ → Option (List ℕ) → Type 0
IsWhole None bytes left = left ≡ None
IsWhole (Some text) bytes left = (text ≡ bytes) × (left ≡ Some [])

-- and there are no more of them than a limit
abbrev pub IsWholeWithin : ℕ → Option (List ℕ) → List ℕ → Option (List ℕ) → Type 0
IsWholeWithin most file bytes left = (length bytes ≤ most) × IsWhole file bytes left

-- the file, where told, is longer than a limit, and what is left comes after one byte more
abbrev pub IsLonger : Option (List ℕ) → ℕ → Option (List ℕ) → Type 0
IsLonger None most left = left ≡ None
IsLonger (Some text) most left = (most < length text) × (left ≡ Some (drop (most + 1) text))

-- every file and every name that may be opened are as before
pub record SameFiles {S : Type 0} (file : S → List ℕ → Option (List ℕ)) (may_open : S → List ℕ → Bool) (old new : S) : Type 0 where
  pub files : (name : List ℕ) → file new name ≡ file old name
  pub names : (name : List ℕ) → may_open new name ≡ may_open old name
