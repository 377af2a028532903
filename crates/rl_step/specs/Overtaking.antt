-- Bounded overtaking: after a cohort of ranks has announced itself, and before one of them enters, at most so many others enter.
use Rattle.std.specs.Prelude.{◌≡◌, ℕ, ◌+◌, ◌≤◌, ◌==◌, Bool, not, List, [], ◌∷◌, ◌++◌, if◌then◌else◌, Option, Some, None}
use Rattle.rl_step.specs.declared.events.Event.{Event}
use Rattle.rl_step.specs.declared.events.Event.TheVariants.{Announce, EnterW}
use Rattle.rl_step.specs.Queues.{count}

-- how many of these ranks enter as writers by an event, and by all events of a trace
abbrev pub entries_by : (ℕ → Bool) → Event → ℕ
entries_by these (EnterW k) = count (these k)
entries_by these _ = 0

abbrev pub entries : (ℕ → Bool) → List Event → ℕ
entries these [] = 0
entries these (e ∷ t) = entries_by these e + entries these t

-- in any stretch behind an announcement of the cohort in which none of its ranks, which are mine, enters, so many others enter at most
pub record IsOvertakenAtMost (mine : ℕ → Bool) (cohort bound : ℕ) (t : List Event) : Type 0 where
  pub stretch : (p u s : List Event) → t ≡ p ++ (Announce cohort ∷ (u ++ s)) → entries mine u ≡ 0 → entries (λ k. not (mine k)) u ≤ bound

-- Below is the same event by event; OvertakingLaws shows that it says the same. The window of a cohort is open from its announcement
-- until one of its ranks enters, and counts the entries of others.
abbrev pub opened : Option ℕ → Option ℕ
opened None = Some 0
opened (Some n) = Some n

abbrev pub one_more : Option ℕ → Option ℕ
one_more None = None
one_more (Some n) = Some (n + 1)

module _ (mine : ℕ → Bool) (cohort : ℕ) where
  abbrev pub window_after : Option ℕ → Event → Option ℕ
  window_after w (Announce c) = if c == cohort then opened w else w
  window_after w (EnterW k) = if mine k then None else one_more w
  window_after w _ = w

  abbrev pub window_of : Option ℕ → List Event → Option ℕ
  window_of w [] = w
  window_of w (e ∷ t) = window_of (window_after w e) t

-- an open window counts at most so many
abbrev pub Low : ℕ → Option ℕ → Type 0
Low bound w = (n : ℕ) → w ≡ Some n → n ≤ bound

-- so it is after each event of the trace
abbrev pub OvertakenFrom : (ℕ → Bool) → ℕ → ℕ → Option ℕ → List Event → Type 0
OvertakenFrom mine cohort bound w [] = Unit {0}
OvertakenFrom mine cohort bound w (e ∷ t) = Low bound (window_after mine cohort w e) × OvertakenFrom mine cohort bound (window_after mine cohort w e) t
