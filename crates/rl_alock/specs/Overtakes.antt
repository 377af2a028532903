-- How many ranks of a cohort may still enter while the other one waits that has announced itself; and that they are never more than its budget and one.
use Rattle.std.specs.Prelude.{ℕ, ◌+◌, ◌-◌, Bool, true, false, ◌≡◌, ◌≤◌, ◌==◌, List, slice_index, Some, None, ◌≢◌}
use Rattle.rl_queue.specs.declared.view.Phase.{Phase}
use Rattle.rl_queue.specs.declared.view.Phase.TheVariants.{Idle, Clear, Reset, Swing, Link, Wait, Settle, Granted, Look, Close, Await, Hand, Above}
use Rattle.rl_alock.specs.declared.view.SettleStage.{SettleStage}
use Rattle.rl_alock.specs.declared.view.SettleStage.TheVariants.{Announce, Tail, Victim}
use Rattle.rl_step.specs.declared.events.Event.{Event}
use Rattle.rl_alock.specs.declared.view.AlockView.{AlockView}
use Rattle.rl_alock.specs.declared.cohort.Cohort.{Cohort}
use Rattle.rl_alock.specs.Alock.{Cohorts, cohort_of, cohort_no, budget_in, is_in_cohort}
use Rattle.rl_alock.specs.AlockGood.{phase_at, entry_at, Announced, status_at, AlockGood}
use Rattle.rl_step.specs.Overtaking.{window_of, OvertakenFrom}
use Rattle.rl_step.specs.Lock.{LockState}

-- of one member: a head that has announced may still let the whole budget and itself in, but none where it is the victim
abbrev pub pot : ℕ → Bool → SettleStage → Phase → ℕ → ℕ
pot B y e Idle s = 0
pot B y e Clear s = 0
pot B y e Reset s = 0
pot B y e (Swing g) s = 0
pot B y e (Link g) s = 0
pot B y e Wait s = s - 1
pot B y Announce Settle s = 0
pot B true Tail Settle s = 0
pot B false Tail Settle s = B + 1
pot B true Victim Settle s = 0
pot B false Victim Settle s = B + 1
pot B y e (Granted left) s = left
pot B y e (Look left u) s = left
pot B y e (Close left) s = left
pot B y e (Await left) s = left
pot B y e (Hand succ left) s = left
pot B y e (Above succ) s = 0

-- how many of cohort o the rank m may still let in
abbrev pub pot_in : Cohorts → Cohort → List ℕ → List AlockView → ℕ → ℕ
pot_in K o ws vs m = pot (budget_in K o) (slice_index ws 2 == cohort_no o) (entry_at vs m) (phase_at vs m) (status_at K ws m)

-- while the window of cohort c is open a rank of it has announced, and there is room for those whom cohort o may still let in
pub record Overtaken (K : Cohorts) (c o : Cohort) (ws : List ℕ) (vs : List AlockView) (t : List Event) : Type 0 where
  pub so_far : OvertakenFrom (is_in_cohort K c) (cohort_no c) (budget_in K o + 1) None t
  pub opener : (n : ℕ) → window_of (is_in_cohort K c) (cohort_no c) None t ≡ Some n → (k : ℕ) × (cohort_of K k ≡ c) × Announced (phase_at vs k) (entry_at vs k)
  pub room : (n m : ℕ) → window_of (is_in_cohort K c) (cohort_no c) None t ≡ Some n → cohort_of K m ≡ o → n + pot_in K o ws vs m ≤ budget_in K o + 1

-- a state is good, and neither cohort has been overtaken too often, or has come to where it would be
pub record AlockBounded (K : Cohorts) (s : LockState AlockView) : Type 0 where
  pub good : AlockGood K s
  pub over : (c o : Cohort) → c ≢ o → Overtaken K c o s.words s.views s.trace
