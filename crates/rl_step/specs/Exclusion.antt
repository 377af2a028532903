-- Who writes and who reads after a trace, and exclusion: at most one writer at any moment, and no reader beside it.
use Rattle.std.specs.Prelude.{◌≡◌, ◌⊎◌, ℕ, ◌==◌, Bool, true, false, List, [], ◌∷◌, ◌++◌, if◌then◌else◌}
use Rattle.rl_step.specs.declared.events.Event.{Event}
use Rattle.rl_step.specs.declared.events.Event.TheVariants.{Join, Announce, Pass, Settle, Touch, EnterW, EnterR, LeaveW, LeaveR}

-- the event stands in the trace
abbrev pub Has : Event → List Event → Type 0
Has e [] = ⊥
Has e (x ∷ t) = (x ≡ e) ⊎ Has e t

-- the event enter stands in the trace, and no leave after it
pub record IsInside (enter leave : Event) (t : List Event) : Type 0 where
  pub before : List Event
  pub after : List Event
  pub entered : t ≡ before ++ enter ∷ after
  pub stayed : Has leave after → ⊥

-- rank k is a writer, or a reader, after the trace: it has entered so and not left since
abbrev pub writers : List Event → ℕ → Type 0
writers t k = IsInside (EnterW k) (LeaveW k) t

abbrev pub readers : List Event → ℕ → Type 0
readers t k = IsInside (EnterR k) (LeaveR k) t

-- rank k holds the lock after the trace
abbrev pub holders : List Event → ℕ → Type 0
holders t k = writers t k ⊎ readers t k

-- Exclusion: after every beginning of the trace there is at most one writer, and no reader beside it; and who touches what
-- the lock guards holds the lock at that moment, as a writer where the touch writes.
pub record IsExclusive (t : List Event) : Type 0 where
  pub one_writer : (p s : List Event) (i j : ℕ) → t ≡ p ++ s → writers p i → writers p j → i ≡ j
  pub no_reader : (p s : List Event) (i j : ℕ) → t ≡ p ++ s → writers p i → readers p j → ⊥
  pub writes : (p s : List Event) (k : ℕ) → t ≡ p ++ Touch k true ∷ s → writers p k
  pub reads : (p s : List Event) (k : ℕ) → t ≡ p ++ Touch k false ∷ s → holders p k

-- Below is the same along the trace, event by event, with tests for who writes and who reads; ExclusionLaws shows that it
-- says the same.

-- who writes after an event, by who did before it
abbrev pub writers_after : Event → (ℕ → Bool) → ℕ → Bool
writers_after (Join q m) ws = ws
writers_after (Announce c) ws = ws
writers_after (Pass q m) ws = ws
writers_after (Settle q m) ws = ws
writers_after (Touch k w) ws = ws
writers_after (EnterW k) ws = λ i. if i == k then true else ws i
writers_after (EnterR k) ws = ws
writers_after (LeaveW k) ws = λ i. if i == k then false else ws i
writers_after (LeaveR k) ws = ws

-- who reads after an event, by who did before it
abbrev pub readers_after : Event → (ℕ → Bool) → ℕ → Bool
readers_after (Join q m) rs = rs
readers_after (Announce c) rs = rs
readers_after (Pass q m) rs = rs
readers_after (Settle q m) rs = rs
readers_after (Touch k w) rs = rs
readers_after (EnterW k) rs = rs
readers_after (EnterR k) rs = λ i. if i == k then true else rs i
readers_after (LeaveW k) rs = rs
readers_after (LeaveR k) rs = λ i. if i == k then false else rs i

-- at most one writer, and no reader where there is one
pub record Alone (ws rs : ℕ → Bool) : Type 0 where
  pub one : (i j : ℕ) → ws i ≡ true → ws j ≡ true → i ≡ j
  pub none : (i j : ℕ) → ws i ≡ true → rs j ≡ true → ⊥

-- a touch comes from a holder, and a touch that writes from a writer
abbrev pub TouchFits : (ℕ → Bool) → (ℕ → Bool) → Event → Type 0
TouchFits ws rs (Touch k true) = ws k ≡ true
TouchFits ws rs (Touch k false) = (ws k ≡ false) → rs k ≡ true
TouchFits ws rs _ = Unit {0}

-- so it is before each event of the trace and after the last one
abbrev pub ExclusiveFrom : (ℕ → Bool) → (ℕ → Bool) → List Event → Type 0
ExclusiveFrom ws rs [] = Alone ws rs
ExclusiveFrom ws rs (e ∷ es) = Alone ws rs × TouchFits ws rs e × ExclusiveFrom (writers_after e ws) (readers_after e rs) es

abbrev pub nobody : ℕ → Bool
nobody i = false

-- what a test of ranks becomes along a trace, by what one event makes of it
abbrev pub along : (Event → (ℕ → Bool) → ℕ → Bool) → (ℕ → Bool) → List Event → ℕ → Bool
along step test [] = test
along step test (e ∷ es) = along step (step e test) es

-- who writes and who reads after a whole trace
abbrev pub writers_of : (ℕ → Bool) → List Event → ℕ → Bool
writers_of ws t = along writers_after ws t

abbrev pub readers_of : (ℕ → Bool) → List Event → ℕ → Bool
readers_of rs t = along readers_after rs t
