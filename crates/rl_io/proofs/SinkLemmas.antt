-- A sink that keeps what fits still tells what it was given, or no longer tells.
use Rattle.std.proofs.Common.{◌≡◌, ℕ, ◌-◌, List, ◌++◌, length, Bool, true, false, ◌&&◌, nat_le, Some, None, if◌then◌else◌, refl, ap}
use Rattle.std.proofs.lemmas.List.{take_all}
use Rattle.std.proofs.lemmas.Bool.{leb-true}
use Rattle.rl_io.specs.Outside.{Appends}
use Rattle.rl_io.specs.Sinks.{TheFixedSink, told, kept_with}

while_told : (all fits : Bool) (bytes piece more : List ℕ) → (fits ≡ true → more ≡ bytes ++ piece)
    → Appends (if all then Some bytes else None) piece (if all && fits then Some more else None)
while_told false fits bytes piece more same = tt
while_told true false bytes piece more same = tt
while_told true true bytes piece more same = (bytes, refl, same refl)

pub Appends-kept_with : (kept : TheFixedSink) (piece : List ℕ) → Appends (told kept) piece (told (kept_with kept piece))
Appends-kept_with kept piece =
    while_told kept.all (nat_le (length piece) (kept.room - length kept.bytes)) kept.bytes piece _
    (λ fits. ap (λ (w : List ℕ). kept.bytes ++ w) (take_all _ _ (leb-true _ _ fits)))
