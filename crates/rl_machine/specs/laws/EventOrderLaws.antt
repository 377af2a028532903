-- A step's events after those of the steps before it.
use Rattle.std.specs.Prelude.{◌<◌, ◌≤◌, ◌+◌, ℕ, List, [], ◌∷◌, ◌++◌, refl}
use Rattle.std.proofs.Common.{arith, inl, inr}
use Rattle.rl_step.specs.declared.events.Event.{Event}
use Rattle.rl_step.specs.Lock.{InOrder}
use Rattle.rl_machine.specs.ShardSteps.{numbered}
use Rattle.rl_machine.specs.EventOrder.{AreOrdered, AreBefore, AreTold}

-- more steps may follow
before_more : (n m : ℕ) (t : List (ℕ × Event)) → n ≤ m → AreBefore n t → AreBefore m t
before_more n m [] more b = tt
before_more n m (x ∷ t) more b = (let low = b.0 in omega arith, before_more n m t more b.1)

pub told_more : (n m : ℕ) (t : List (ℕ × Event)) → n ≤ m → AreTold n t → AreTold m t
told_more n m t more told = record { before = before_more n m t more told.before; ordered = told.ordered }

-- the events of one step
one_ordered : (n : ℕ) (es : List Event) → InOrder es → AreOrdered (numbered n es)
one_ordered n [] o = tt
one_ordered n (e ∷ []) o = tt
one_ordered n (e ∷ f ∷ es) o = (inr (refl, o.0), one_ordered n (f ∷ es) o.1)

one_before : (n m : ℕ) (es : List Event) → n < m → AreBefore m (numbered n es)
one_before n m [] low = tt
one_before n m (e ∷ es) low = (low, one_before n m es low)

-- and after others
ordered_then : (n : ℕ) (t : List (ℕ × Event)) (es : List Event) → AreBefore n t → AreOrdered t → InOrder es → AreOrdered (t ++ numbered n es)
ordered_then n [] es b o more = one_ordered n es more
ordered_then n (x ∷ []) [] b o more = tt
ordered_then n (x ∷ []) (e ∷ es) b o more = (inl b.0, one_ordered n (e ∷ es) more)
ordered_then n (x ∷ y ∷ t) es b o more = (o.0, ordered_then n (y ∷ t) es b.1 o.1 more)

before_then : (m : ℕ) (t s : List (ℕ × Event)) → AreBefore m t → AreBefore m s → AreBefore m (t ++ s)
before_then m [] s a b = b
before_then m (x ∷ t) s a b = (a.0, before_then m t s a.1 b)

pub told_then : (n : ℕ) (t : List (ℕ × Event)) (es : List Event) → AreTold n t → InOrder es → AreTold (n + 1) (t ++ numbered n es)
told_then n t es told more =
    record {
      before = before_then (n + 1) t (numbered n es) (before_more n (n + 1) t (omega arith) told.before) (one_before n (n + 1) es (omega arith));
      ordered = ordered_then n t es told.before told.ordered more;
    }
