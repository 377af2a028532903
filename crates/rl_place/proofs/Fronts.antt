-- What a loop has read so far stands in front of what it still reads.
use Rattle.std.proofs.Common.{◌≡◌, List, [], ◌∷◌, ◌++◌, Result, Ok, Err, refl, ap, append_assoc}
use Rattle.rl_text.specs.declared.causes.Refusal.{Refusal}
use Rattle.rl_text.specs.Rows.{Left}
use Rattle.rl_text.specs.Reading.{◌>>=◌}

-- ---- readers of one line

abbrev pub with_front : {X : Type 0} → List X → Result (List X) Refusal → Result (List X) Refusal
with_front front read = read >>= λ more. Ok (front ++ more)

pub with_front-one : {X : Type 0} (front : List X) (x : X) (read : Result (List X) Refusal) → with_front front (read >>= λ more. Ok (x ∷ more)) ≡ with_front (front ++ x ∷ []) read
with_front-one {X = X} front x (Ok more) = ap (λ (xs : List X). Ok xs) (simp append_assoc)
with_front-one front x (Err refusal) = refl

-- ---- readers of lines

abbrev pub with_lines : {X : Type 0} → List X → Result (List X × Left) Refusal → Result (List X × Left) Refusal
with_lines front read = read >>= λ more. Ok (front ++ more.0, more.1)

pub with_lines-one : {X : Type 0} (front : List X) (x : X) (read : Result (List X × Left) Refusal)
    → with_lines front (read >>= λ more. Ok (x ∷ more.0, more.1)) ≡ with_lines (front ++ x ∷ []) read
with_lines-one {X = X} front x (Ok more) = ap (λ (xs : List X). Ok (xs, more.1)) (simp append_assoc)
with_lines-one front x (Err refusal) = refl
