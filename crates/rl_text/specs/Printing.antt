-- What a printer does to the bytes that it appends to.
use Rattle.std.specs.Prelude.{◌≡◌, ℕ, ◌+◌, ◌/◌, ◌%◌, List, [], ◌∷◌, ◌++◌, length, take, Result, OnOk}
use Rattle.std.specs.Global.{Vec}

-- unless memory ran out, the text was appended
abbrev pub Puts : {E : Type 0} → Result (Unit {0}) E → Vec ℕ → Vec ℕ → List ℕ → Type 0
Puts result old new text = OnOk result (new.items ≡ old.items ++ text)

-- what was there before still stands, and whatever comes after it
abbrev pub StillStands : Vec ℕ → Vec ℕ → Type 0
StillStands old new = take (length old.items) new.items ≡ old.items

-- the text was written at a place of a line, after what stands before it, and the line is as long as it was
abbrev pub Writes : List ℕ → List ℕ → ℕ → ℕ → List ℕ → Type 0
Writes old new at end text = (take end new ≡ take at old ++ text) × (length new ≡ length old)

-- two digits of a number below 100, with a leading zero
abbrev pub two_digits : ℕ → List ℕ
two_digits n = (48 + n / 10) ∷ (48 + n % 10) ∷ []
