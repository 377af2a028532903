-- What is seen of the events so far.
use Rattle.std.specs.Prelude.{◌≡◌, ℕ, ◌==◌, ◌<◌, Bool, false, List, [], ◌∷◌, ◌++◌, get_or, length, slice_get, Option, Some, None}
use Rattle.rl_step.specs.declared.events.Event.{Event}
use Rattle.rl_step.specs.Exclusion.{writers_of, readers_of, nobody, ExclusiveFrom}
use Rattle.rl_step.specs.Queues.{QueueOf, WithinFrom, room_of}
use Rattle.rl_step.specs.declared.events.Event.TheVariants.{Touch, EnterR}
use Rattle.std.specs.Bool.{MatchBool}
use Rattle.rl_check.specs.Shards.{KeepsRules}
use Rattle.rl_check.specs.declared.events.Watch.{Watch}

-- the rank is the one writer
abbrev pub is_the : Option ℕ → ℕ → Bool
is_the None k = false
is_the (Some w) k = w == k

-- the budgets are those of the queues
abbrev pub AreBudgets : List QueueOf → List (Option ℕ) → Type 0
AreBudgets queues budgets = (q : ℕ) (o : Option ℕ) → slice_get budgets q ≡ Some o → (d : QueueOf) × (slice_get queues q ≡ Some d) × (d.budget ≡ o)

-- who is inside after the events, and how often each queue with a budget may still be passed; so far the rules were kept
pub record IsSeen (queues : List QueueOf) (ranks : ℕ) (trace : List Event) (writer : Option ℕ) (reads : List Bool) (budgets : List (Option ℕ)) (room : List ℕ) : Type 0 where
  pub writers_are : (k : ℕ) → writers_of nobody trace k ≡ is_the writer k
  pub readers_are : (k : ℕ) → readers_of nobody trace k ≡ get_or reads k false
  pub all_ranks : length reads ≡ ranks
  pub exclusive : ExclusiveFrom nobody nobody trace
  pub budgets_are : AreBudgets queues budgets
  pub each : length budgets ≡ length queues
  pub rooms : length room ≡ length queues
  pub room_is : (q B : ℕ) → slice_get budgets q ≡ Some (Some B) → get_or room q 0 ≡ room_of q B 0 trace
  pub within : (q B : ℕ) → slice_get budgets q ≡ Some (Some B) → WithinFrom q B 0 trace

abbrev pub Sees : List QueueOf → ℕ → List Event → Watch → Type 0
Sees queues ranks trace w = IsSeen queues ranks trace w.writer w.reads.items w.budgets.items w.room.items

-- the rank that enters or leaves is there, and it is no touch
abbrev pub IsThere : ℕ → Event → Type 0
IsThere ranks (Touch k w) = ⊥
IsThere ranks (EnterR k) = k < ranks
IsThere ranks _ = Unit {0}

-- an event more, after which the rules hold or don't
abbrev pub StepsOn : Watch → Watch → Event → Bool → Type 0
StepsOn w v e holds =
    (queues : List QueueOf) (ranks : ℕ) (trace : List Event) → IsThere ranks e → Sees queues ranks trace w → MatchBool holds (Sees queues ranks (trace ++ e ∷ []) v) (KeepsRules queues (trace ++ e ∷ []) → ⊥)

-- the budget of a queue among these, if it is there and has one
abbrev pub told_budget : Option (Option ℕ) → Option ℕ
told_budget None = None
told_budget (Some o) = o

abbrev pub budget_in : List (Option ℕ) → ℕ → Option ℕ
budget_in budgets q = told_budget (slice_get budgets q)
