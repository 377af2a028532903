-- The events of a shard in their order: the steps' numbers rise, and those of one step stand in the order of their kinds.
use Rattle.std.specs.Prelude.{◌≡◌, ◌⊎◌, ◌<◌, ℕ, List, [], ◌∷◌}
use Rattle.std.specs.List.{AllByRecursion}
use Rattle.rl_step.specs.declared.events.Event.{Event}
use Rattle.rl_step.specs.Lock.{Before}

-- y is the event of a later step than x, or a later one of the same step
abbrev pub Later : ℕ × Event → ℕ × Event → Type 0
Later x y = (x.0 < y.0) ⊎ ((x.0 ≡ y.0) × Before x.1 y.1)

abbrev pub AreOrdered : List (ℕ × Event) → Type 0
AreOrdered [] = Unit {0}
AreOrdered (x ∷ []) = Unit {0}
AreOrdered (x ∷ y ∷ t) = Later x y × AreOrdered (y ∷ t)

-- all of them are of steps before this one
abbrev pub AreBefore : ℕ → List (ℕ × Event) → Type 0
AreBefore n t = AllByRecursion (λ x. x.0 < n) t

pub record AreTold (n : ℕ) (t : List (ℕ × Event)) : Type 0 where
  pub before : AreBefore n t
  pub ordered : AreOrdered t
