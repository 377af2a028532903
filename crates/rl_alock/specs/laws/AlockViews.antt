-- The views of ranks by number: what stands there, and how the phases in both queues change where one view does.
use Rattle.std.specs.Prelude.{◌≡◌, ◌≢◌, ◌⊎◌, ℕ, true, false, List, slice_get, slice_set, Some, refl}
use Rattle.std.proofs.Common.{sym, ◌∙◌, ap, ⊎_elim}
use Rattle.rl_step.specs.Lock.{first_views}
use Rattle.rl_queue.specs.declared.view.Phase.TheVariants.{Idle}
use Rattle.rl_queue.specs.QueueGood.{Moves}
use Rattle.rl_queue.specs.laws.RankViewLaws.{read_get, read_set_same, read_set_other, read_all, read_first}
use Rattle.rl_alock.specs.declared.cohort.Cohort.{Cohort}
use Rattle.rl_alock.specs.declared.view.SettleStage.TheVariants.{Announce}
use Rattle.rl_alock.specs.declared.view.AlockView.{AlockView}
use Rattle.rl_alock.specs.Alock.{Cohorts, cohort_of, is_in_cohort, other, at_entry}
use Rattle.rl_alock.specs.AlockGood.{phase_at, entry_at, part, phases_of}
use Rattle.rl_alock.specs.laws.CohortLaws.{other_differs, in_own, in_other}

pub phase_get : (vs : List AlockView) (r : ℕ) (v : AlockView) → slice_get vs r ≡ Some v → phase_at vs r ≡ v.queue.phase
phase_get vs r v h = read_get {V = AlockView} (λ v. v.queue.phase) Idle vs r v h

pub phase_set_same : (vs : List AlockView) (r : ℕ) (v w : AlockView) → slice_get vs r ≡ Some v → phase_at (slice_set vs r w) r ≡ w.queue.phase
phase_set_same vs r v w h = read_set_same {V = AlockView} (λ v. v.queue.phase) Idle vs r v w h

pub phase_set_other : (vs : List AlockView) (r : ℕ) (w : AlockView) (i : ℕ) → i ≢ r → phase_at (slice_set vs r w) i ≡ phase_at vs i
phase_set_other vs r w i ne = read_set_other {V = AlockView} (λ v. v.queue.phase) Idle vs r w i ne

pub entry_get : (vs : List AlockView) (r : ℕ) (v : AlockView) → slice_get vs r ≡ Some v → entry_at vs r ≡ v.entry
entry_get vs r v h = read_get {V = AlockView} (λ v. v.entry) Announce vs r v h

pub entry_set_same : (vs : List AlockView) (r : ℕ) (v w : AlockView) → slice_get vs r ≡ Some v → entry_at (slice_set vs r w) r ≡ w.entry
entry_set_same vs r v w h = read_set_same {V = AlockView} (λ v. v.entry) Announce vs r v w h

pub entry_set_other : (vs : List AlockView) (r : ℕ) (w : AlockView) (i : ℕ) → i ≢ r → entry_at (slice_set vs r w) i ≡ entry_at vs i
entry_set_other vs r w i ne = read_set_other {V = AlockView} (λ v. v.entry) Announce vs r w i ne

-- at first all ranks are idle, and so they are where all views are
pub first_idle : (n m : ℕ) → phase_at (first_views (λ r. at_entry r Idle Announce) 0 n) m ≡ Idle
first_idle n m = read_first {V = AlockView} (λ v. v.queue.phase) Idle (λ r. at_entry r Idle Announce) (λ r. refl) 0 n m

pub all_idle : (vs : List AlockView) → ((r : ℕ) (v : AlockView) → slice_get vs r ≡ Some v → v.queue.phase ≡ Idle) → (m : ℕ) → phase_at vs m ≡ Idle
all_idle vs f m = read_all {V = AlockView} (λ v. v.queue.phase) Idle vs f m

module _ (K : Cohorts) where
  -- a rank has its phase in its own cohort's queue, and is idle in the other's
  pub mine_is : (c : Cohort) (vs : List AlockView) (m : ℕ) → cohort_of K m ≡ c → phases_of K c vs m ≡ phase_at vs m
  mine_is c vs m e = ap (λ z. part z (phase_at vs m)) (in_own K c m e)

  pub other_is : (c : Cohort) (vs : List AlockView) (m : ℕ) → cohort_of K m ≡ c → phases_of K (other c) vs m ≡ Idle
  other_is c vs m e = ap (λ z. part z (phase_at vs m)) (in_other K (other c) m (λ q. other_differs c (sym e ∙ q)))

  -- who is idle is idle in both
  pub idle_part : (c : Cohort) (vs : List AlockView) (m : ℕ) → phase_at vs m ≡ Idle → phases_of K c vs m ≡ Idle
  idle_part c vs m e = ap (part (is_in_cohort K c m)) e ∙ by (is_in_cohort K c m) where
    by : (b : _) → part b Idle ≡ Idle
    by true = refl
    by false = refl

  -- rank r of the cohort c moves: in its own queue as it does, and in the other not at all
  pub moves_mine : (c : Cohort) (vs : List AlockView) (r : ℕ) (v w : AlockView) → cohort_of K r ≡ c → slice_get vs r ≡ Some v →
      Moves (phases_of K c vs) (phases_of K c (slice_set vs r w)) r v.queue.phase w.queue.phase
  moves_mine c vs r v w e has =
      record {
        was = mine_is c vs r e ∙ phase_get vs r v has;
        now = mine_is c (slice_set vs r w) r e ∙ phase_set_same vs r v w has;
        others = λ x ne. ap (part (is_in_cohort K c x)) (phase_set_other vs r w x ne);
      }

  pub moves_other : (c : Cohort) (vs : List AlockView) (r : ℕ) (w : AlockView) → cohort_of K r ≡ c → (x : ℕ) → (x ≡ r) ⊎ (x ≢ r) →
      phases_of K (other c) (slice_set vs r w) x ≡ phases_of K (other c) vs x
  moves_other c vs r w e x which =
      ⊎_elim
      (λ q. let ex : cohort_of K x ≡ c = ap (cohort_of K) q ∙ e in other_is c (slice_set vs r w) x ex ∙ sym (other_is c vs x ex))
      (λ q. ap (part (is_in_cohort K (other c) x)) (phase_set_other vs r w x q)) which
