-- Two texts behind a first one.
use Rattle.std.proofs.Common.{◌≡◌, ℕ, List, ◌++◌, ap, ◌∙◌, append_assoc}

pub two_behind : (a b c out o1 o2 s l : List ℕ) → out ≡ a → o1 ≡ out ++ s → s ≡ b → o2 ≡ o1 ++ l → l ≡ c → o2 ≡ a ++ (b ++ c)
two_behind a b c out o1 o2 s l is_a one is_b two is_c =
    two ∙ ap (λ z. z ++ l) (one ∙ ap (λ z. z ++ s) is_a) ∙ append_assoc a s l ∙ ap (λ z. a ++ (z ++ l)) is_b ∙ ap (λ z. a ++ (b ++ z)) is_c
