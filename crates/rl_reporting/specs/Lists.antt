-- Vectors of vectors.
use Rattle.std.specs.Global.{Vec}
use Rattle.std.specs.Prelude.{List, map}

-- the lists that a vector of vectors holds
abbrev pub lists_in : {X : Type 0} → Vec (Vec X) → List (List X)
lists_in vectors = map (λ vector. vector.items) vectors.items
