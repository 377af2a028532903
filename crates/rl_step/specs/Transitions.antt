-- The steps of a run as a lock's words show them, and bounded batches of readers: while a counter's word isn't lowered at most so many
-- readers of its group enter.
use Rattle.std.specs.Prelude.{◌≡◌, ℕ, ◌+◌, ◌≤◌, Bool, List, [], ◌∷◌, ◌++◌, slice_index}
use Rattle.rl_step.specs.declared.events.Event.{Event}
use Rattle.rl_step.specs.declared.events.Event.TheVariants.{EnterR}
use Rattle.rl_step.specs.Queues.{count}

-- one atom: the lock's words before and after it, numbered as the lock numbers them, and what it told
pub record Transition : Type 0 where
  pub before : List ℕ
  pub after : List ℕ
  pub events : List Event

-- how many of these ranks enter as readers by an event, by the events of one atom, and by those of all atoms
abbrev pub reader_entries_by : (ℕ → Bool) → Event → ℕ
reader_entries_by these (EnterR k) = count (these k)
reader_entries_by these _ = 0

abbrev pub reader_entries : (ℕ → Bool) → List Event → ℕ
reader_entries these [] = 0
reader_entries these (e ∷ es) = reader_entries_by these e + reader_entries these es

abbrev pub readers_entered : (ℕ → Bool) → List Transition → ℕ
readers_entered these [] = 0
readers_entered these (x ∷ xs) = reader_entries these x.events + readers_entered these xs

-- the word has in none of these atoms less after it than before
abbrev pub NeverLowered : ℕ → List Transition → Type 0
NeverLowered w [] = Unit {0}
NeverLowered w (x ∷ xs) = (slice_index x.before w ≤ slice_index x.after w) × NeverLowered w xs

-- in any stretch of atoms none of which lowers the word so many readers of the group, which are mine, enter at most
pub record IsBatchedAtMost (mine : ℕ → Bool) (w bound : ℕ) (ts : List Transition) : Type 0 where
  pub stretch : (p u s : List Transition) → ts ≡ p ++ (u ++ s) → NeverLowered w u → readers_entered mine u ≤ bound
