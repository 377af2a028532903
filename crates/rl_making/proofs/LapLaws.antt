-- Laps: who has work, and what no turn changes.
use Rattle.std.proofs.Common.{nat_lt, ⊎_elim, ◌≡◌, ℕ, zero, suc, ◌+◌, ◌-◌, ◌<◌, ◌≤◌, min, length, Bool, true, false, ◌||◌, ◌⊎◌, inl, inr, refl, sym, ap, ◌∙◌, add-one, arith}
use Rattle.std.proofs.lemmas.Bool.{lt-ltb, le-ltb}
use Rattle.rl_word.specs.laws.Places.{same_or_not}
use Rattle.rl_machine.specs.Running.{Running}
use Rattle.rl_making.specs.Laps.{has_work, any_has_work, may_step, stepped_if, turns, goes_on, next_lap, laps}
use Rattle.rl_machine.specs.laws.Alike.{IsAlike, alike_then, stepped_alike}

pub or_true : (b : Bool) → (b || true) ≡ true
or_true true = refl
or_true false = refl

pub or_false : (b : Bool) → (b || false) ≡ b
or_false true = refl
or_false false = refl

-- a step may be made where some are left
pub may_left : (most made left : ℕ) → left ≡ most - made → nat_lt made most ≡ nat_lt 0 left
may_left most made left is =
    ⊎_elim (λ some. lt-ltb made most (omega (arith, some, is)) ∙ sym (lt-ltb 0 left some)) (λ none. le-ltb made most (omega (arith, none, is)) ∙ sym (le-ltb 0 left none)) (some_or_none left)
  where
    some_or_none : (n : ℕ) → (0 < n) ⊎ (n ≤ 0)
    some_or_none zero = inr (omega arith)
    some_or_none (suc n) = inl (omega arith)

module _ {V : Type 0} (m : Running V) where
  -- one of them has it
  pub one_has : (ranks rank : ℕ) → rank < ranks → has_work m rank ≡ true → any_has_work m ranks ≡ true
  one_has zero rank low has = absurd (omega arith)
  one_has (suc ranks) rank low has = here (same_or_not rank ranks) (λ before. one_has ranks rank before has)
    where
      here : (rank ≡ ranks) ⊎ (rank ≡ ranks → ⊥) → (rank < ranks → any_has_work m ranks ≡ true) → (any_has_work m ranks || has_work m ranks) ≡ true
      here (inl e) before = ap (λ r. any_has_work m ranks || has_work m r) (sym e) ∙ ap (λ b. any_has_work m ranks || b) has ∙ or_true (any_has_work m ranks)
      here (inr ne) before = ap (λ b. b || has_work m ranks) (before (omega (arith, ne)))

module _ {V : Type 0} where
  alike_self : (m : Running V) → IsAlike m m
  alike_self m = record { tables = refl; views = refl; geom = refl; calls = refl; sizes = refl }

  stepped_if_alike : (may : Bool) (m : Running V) (rank : ℕ) → IsAlike (stepped_if may m rank) m
  stepped_if_alike true m rank = stepped_alike m rank
  stepped_if_alike false m rank = alike_self m

  -- one turn more
  pub turn_more : (most : ℕ) (m : Running V) (rank : ℕ) → turns most m (rank + 1) ≡ stepped_if (may_step most (turns most m rank)) (turns most m rank) rank
  turn_more most m rank = rw add-one refl

  pub turns_alike : (most : ℕ) (m : Running V) (ranks : ℕ) → IsAlike (turns most m ranks) m
  turns_alike most m zero = alike_self m
  turns_alike most m (suc rank) = alike_then _ (turns most m rank) m (stepped_if_alike (may_step most (turns most m rank)) (turns most m rank) rank) (turns_alike most m rank)

  next_alike : (most : ℕ) (m : Running V) → IsAlike (next_lap most m) m
  next_alike most m = here (goes_on most m) refl
    where
      here : (b : Bool) → goes_on most m ≡ b → IsAlike (next_lap most m) m
      here true e = rw e (turns_alike most m (length m.calls))
      here false e = rw e (alike_self m)

  pub laps_alike : (most : ℕ) (m : Running V) (n : ℕ) → IsAlike (laps most m n) m
  unfolding laps
  laps_alike most m zero = alike_self m
  laps_alike most m (suc n) = alike_then _ (laps most m n) m (next_alike most (laps most m n)) (laps_alike most m n)

  -- no lap
  pub no_lap : (most : ℕ) (m : Running V) → laps most m 0 ≡ m
  unfolding laps
  no_lap most m = refl

  -- one lap more
  pub lap_more : (most : ℕ) (m : Running V) (n : ℕ) → goes_on most (laps most m n) ≡ true → laps most m (n + 1) ≡ turns most (laps most m n) (length (laps most m n).calls)
  unfolding laps
  lap_more most m n on = rw (add-one, on) refl

  -- where no other lap is made, these are all
  pub all_made : (most : ℕ) (m : Running V) (n more : ℕ) → goes_on most (laps most m n) ≡ false → laps most m (more + n) ≡ laps most m n
  unfolding laps
  all_made most m n zero off =
      let same : 0 + n ≡ n = omega arith in
      ap (laps most m) same
  all_made most m n (suc more) off =
      let next : suc more + n ≡ suc (more + n) = omega arith in
      ap (laps most m) next ∙ ap (next_lap most) (all_made most m n more off) ∙ rw off refl
