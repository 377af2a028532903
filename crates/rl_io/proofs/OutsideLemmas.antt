-- Writes one after the other, and reads one after the other.
use Rattle.std.proofs.Common.{◌≡◌, ℕ, ◌+◌, ◌-◌, ◌≤◌, List, ◌++◌, length, take, drop, Option, Some, None, refl, sym, ap, ◌∙◌, append_assoc, add_assoc, arith}
use Rattle.std.proofs.lemmas.List.{take-append-drop, take_all, length-drop}
use Rattle.std.proofs.Math.Seq.{take-add}
use Rattle.rl_io.specs.Outside.{Appends, GoesOn, Reads, IsRead, IsTail}

-- ---- writing

same_some : (v w : List ℕ) → ◌≡◌ {A = Option (List ℕ)} (Some v) (Some w) → v ≡ w
same_some v w e = cc

-- two pieces, one after the other, are one piece
pub Appends-then : (before between after : Option (List ℕ)) (p q : List ℕ) → Appends before p between → Appends between q after → Appends before (p ++ q) after
Appends-then before between None p q first second = tt
Appends-then before (Some y) (Some z) p q first second =
    let same : y ≡ second.0 = same_some y second.0 second.1 in
    (first.0, first.1, second.2 ∙ ap (λ (w : List ℕ). w ++ q) (sym same ∙ first.2) ∙ append_assoc first.0 p q)
Appends-then before None (Some z) p q first second = absurd (none_some second.0 second.1)
  where
    none_some : (w : List ℕ) → ◌≡◌ {A = Option (List ℕ)} None (Some w) → ⊥
    none_some w e = cc

-- a front of a text, and n bytes more of it
pub front_more : (at n : ℕ) (text : List ℕ) → take (at + n) text ≡ take at text ++ take n (take (length text - at) (drop at text))
front_more at n text =
    let rest : take (length text - at) (drop at text) ≡ drop at text = take_all _ _ (omega (arith, length-drop at text)) in
    rw (rest, take-add) refl

-- n bytes more
pub GoesOn-then : {S : Type 0} (tells_on : S → ℕ → Type 0) (old now new : S) (at n : ℕ) → GoesOn tells_on old at now → GoesOn tells_on now n new → GoesOn tells_on old (at + n) new
GoesOn-then tells_on old now new at n so_far more m told = more m (so_far (n + m) (rw add_assoc at told))

-- what would have told through more
pub GoesOn-more : {S : Type 0} (tells_on : S → ℕ → Type 0) → ((sink : S) (n m : ℕ) → tells_on sink (n + m) → tells_on sink m)
    → (old new : S) (n most : ℕ) → n ≤ most → GoesOn tells_on old n new → GoesOn tells_on old most new
GoesOn-more tells_on fewer old new n most within so_far m told =
    let split : most + m ≡ n + ((most - n) + m) = omega arith in
    fewer new (most - n) m (so_far ((most - n) + m) (rw split at told))

-- ---- reading

pub IsTail-reads : (left after : Option (List ℕ)) (n : ℕ) (old new : List ℕ) → Reads left n old new after → IsTail left after
IsTail-reads None after n old new reads = reads
IsTail-reads (Some left) after n old new reads = (take n left, drop n left, reads.1, sym (take-append-drop n left))

-- a tail of what was left is a tail of the file
pub IsTail-then : (file left after : Option (List ℕ)) (bytes : List ℕ) → IsRead file bytes left → IsTail left after → IsTail file after
IsTail-then None left after bytes so_far tail = untold (rw so_far at tail)
  where
    untold : IsTail None after → after ≡ None
    untold e = e
IsTail-then (Some text) left after bytes so_far tail =
    let g : IsTail (Some so_far.0) after = rw so_far.1 at tail in
    (bytes ++ g.0, g.1, g.2, so_far.2 ∙ ap (λ (w : List ℕ). bytes ++ w) g.3 ∙ sym (append_assoc bytes g.0 g.1))
