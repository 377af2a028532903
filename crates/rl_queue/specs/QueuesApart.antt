-- Two queues whose words and members are apart, so that no act of one changes the other; and events that aren't of a queue.
use Rattle.std.specs.Prelude.{◌≢◌, ℕ, Option, ◌≡◌, ◌⊎◌, List, [], ◌∷◌}
use Rattle.rl_step.specs.declared.events.Event.{Event}
use Rattle.rl_step.specs.declared.events.Event.TheVariants.{Join, Announce, Pass, Settle, Touch, EnterW, EnterR, LeaveW, LeaveR}
use Rattle.rl_queue.specs.Queue.{TheNames, queue_next_word, status_word}

module _ (q : ℕ) (B : Option ℕ) where
  -- an event that isn't of the queue
  abbrev pub Apart : Event → Type 0
  Apart (Join k m) = k ≢ q
  Apart (Announce c) = Unit {0}
  Apart (Pass k m) = k ≢ q
  Apart (Settle k m) = k ≢ q
  Apart (Touch k x) = Unit {0}
  Apart (EnterW k) = Unit {0}
  Apart (EnterR k) = Unit {0}
  Apart (LeaveW k) = Unit {0}
  Apart (LeaveR k) = Unit {0}

-- a word of the queue
abbrev pub Place : TheNames → (ℕ → Type 0) → ℕ → Type 0
Place n In w = (w ≡ n.tail) ⊎ (((k : ℕ) × (In k × (w ≡ queue_next_word n k))) ⊎ ((k : ℕ) × (In k × (w ≡ status_word n k))))

-- these events are all of other queues
abbrev pub AllApart : ℕ → Option ℕ → List Event → Type 0
AllApart q B [] = Unit {0}
AllApart q B (e ∷ es) = Apart q B e × AllApart q B es

-- two queues have other numbers and no word in common
pub record AreApart (n o : TheNames) (In On : ℕ → Type 0) : Type 0 where
  pub numbers : n.queue ≢ o.queue
  pub places : (w : ℕ) → Place n In w → Place o On w → ⊥
