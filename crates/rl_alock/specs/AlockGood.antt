-- Which states of ALock are good: each cohort's queue is, and the entry in which their heads meet.
use Rattle.std.specs.Prelude.{◌≡◌, ◌≢◌, ◌⊎◌, ℕ, ◌+◌, ◌*◌, ◌<◌, Bool, true, false, List, length, slice_get, slice_index, Some}
use Rattle.rl_step.specs.Lock.{LockState}
use Rattle.rl_step.specs.Queues.{tenures}
use Rattle.rl_queue.specs.declared.view.Phase.{Phase}
use Rattle.rl_queue.specs.declared.view.Phase.TheVariants.{Idle, Settle, Look, Above}
use Rattle.rl_queue.specs.Lane.{served}
use Rattle.rl_queue.specs.QueueGood.{QueueGood}
use Rattle.rl_queue.specs.RankWords.{every_second}
use Rattle.rl_queue.specs.RankViews.{of_rank}
use Rattle.rl_alock.specs.declared.cohort.Cohort.{Cohort}
use Rattle.rl_alock.specs.declared.view.SettleStage.{SettleStage}
use Rattle.rl_alock.specs.declared.view.SettleStage.TheVariants.{Announce, Tail, Victim}
use Rattle.rl_alock.specs.declared.view.AlockView.{AlockView}
use Rattle.rl_alock.specs.Alock.{Cohorts, ranks_of, cohort_of, is_in_cohort, cohort_no, victim_no, names_of, queue_in}

-- the phase and the place in the entry of each rank, by its number
abbrev pub phase_at : List AlockView → ℕ → Phase
phase_at vs m = of_rank {V = AlockView} (λ v. v.queue.phase) Idle vs m

abbrev pub entry_at : List AlockView → ℕ → SettleStage
entry_at vs m = of_rank {V = AlockView} (λ v. v.entry) Announce vs m

-- a rank's phase in the queue of a cohort: idle where it isn't one of it
abbrev pub part : Bool → Phase → Phase
part true p = p
part false p = Idle

abbrev pub phases_of : Cohorts → Cohort → List AlockView → ℕ → Phase
phases_of K c vs m = part (is_in_cohort K c m) (phase_at vs m)

-- the ranks of a cohort
pub record InCohort (K : Cohorts) (c : Cohort) (m : ℕ) : Type 0 where
  pub there : m < ranks_of K
  pub sits : cohort_of K m ≡ c

abbrev pub status_at : Cohorts → List ℕ → ℕ → ℕ
status_at K ws m = slice_index ws (slice_index (every_second 4 (ranks_of K)) m)

-- no rank is where something is above its queue
abbrev pub Flat : Phase → Type 0
Flat (Look left true) = ⊥
Flat (Above succ) = ⊥
Flat p = Unit {0}

-- a head that has named its cohort the victim and hasn't settled
abbrev pub Announced : Phase → SettleStage → Type 0
Announced Settle Announce = ⊥
Announced Settle Tail = Unit {0}
Announced Settle Victim = Unit {0}
Announced p st = ⊥

-- The entry of two: where a head has announced itself the victim is named; where a rank of one cohort has been given the lock, a head
-- of the other that has announced itself is the victim, and no rank of the other has been given it.
pub record Entered (cohort : ℕ → Cohort) (ph : ℕ → Phase) (en : ℕ → SettleStage) (status : ℕ → ℕ) (victim : ℕ) : Type 0 where
  pub named : (k : ℕ) → Announced (ph k) (en k) → (victim ≡ 1) ⊎ (victim ≡ 2)
  pub yields : (m k : ℕ) → cohort m ≢ cohort k → served (ph m) (status m) ≡ true → Announced (ph k) (en k) → victim ≡ cohort_no (cohort k)
  pub one : (m k : ℕ) → cohort m ≢ cohort k → served (ph m) (status m) ≡ true → served (ph k) (status k) ≡ true → ⊥

-- A state is good where each cohort's queue is, with some line, and its ended tenures are the departures of its ranks; and where
-- the entry is.
pub record AlockGood (K : Cohorts) (s : LockState AlockView) : Type 0 where
  pub all_words : length s.words ≡ 3 + 2 * ranks_of K
  pub all_views : length s.views ≡ ranks_of K
  pub all_modes : length s.modes ≡ ranks_of K
  pub own : (r : ℕ) (v : AlockView) → slice_get s.views r ≡ Some v → v.queue.member ≡ r
  pub flat : (r : ℕ) (v : AlockView) → slice_get s.views r ≡ Some v → Flat v.queue.phase
  -- a rank that is alone never looks at the victim
  pub lonely : ranks_of K ≡ 1 → (r : ℕ) (v : AlockView) → slice_get s.views r ≡ Some v → v.entry ≢ Victim
  pub line : Cohort → List ℕ
  pub queue : (c : Cohort) → QueueGood (names_of K c) (InCohort K c) s.words (phases_of K c s.views) (line c) s.trace (tenures (queue_in K c) s.trace)
  pub entered : Entered (cohort_of K) (phase_at s.views) (entry_at s.views) (status_at K s.words) (slice_index s.words victim_no)
