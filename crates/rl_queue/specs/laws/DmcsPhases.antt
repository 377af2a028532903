-- The phases of the ranks of D-MCS, in a list of views, and in which of them no act is planned.
use Rattle.std.specs.Prelude.{◌≡◌, ◌↔◌, ℕ, List, slice_get, slice_set, Some, None, refl}
use Rattle.rl_step.specs.Lock.{Rests, first_views}
use Rattle.rl_queue.specs.declared.view.Phase.{Phase}
use Rattle.rl_queue.specs.declared.view.Phase.TheVariants.{Idle, Settle, Granted, Above}
use Rattle.rl_queue.specs.declared.view.QueueView.{QueueView}
use Rattle.rl_queue.specs.Queue.{at_phase, plan_at}
use Rattle.rl_queue.specs.QueueGood.{Moves}
use Rattle.rl_queue.specs.Dmcs.{dmcs_names, phase_in, Calm}
use Rattle.rl_queue.specs.laws.RankViewLaws.{read_get, read_set_same, read_set_other, read_all, read_first}
use Rattle.rl_queue.specs.Standings.{standing_of}

-- the phase of a rank is that of its view
pub phase_get : (vs : List QueueView) (r : ℕ) (v : QueueView) → slice_get vs r ≡ Some v → phase_in vs r ≡ v.phase
phase_get vs r v h = read_get {V = QueueView} (λ v. v.phase) Idle vs r v h

-- a changed view is a move of its rank
pub view_moves : (vs : List QueueView) (r : ℕ) (v w : QueueView) → slice_get vs r ≡ Some v → Moves (phase_in vs) (phase_in (slice_set vs r w)) r v.phase w.phase
view_moves vs r v w h =
    record {
      was = phase_get vs r v h;
      now = read_set_same {V = QueueView} (λ v. v.phase) Idle vs r v w h;
      others = λ i ne. read_set_other {V = QueueView} (λ v. v.phase) Idle vs r w i ne;
    }

pub moves_in : (vs : List QueueView) (r k : ℕ) (p p' : Phase) → slice_get vs r ≡ Some (at_phase k p) →
    Moves (phase_in vs) (phase_in (slice_set vs r (at_phase k p'))) r p p'
moves_in vs r k p p' h = view_moves vs r (at_phase k p) (at_phase k p') h

-- at first all ranks are idle
pub first_idle : (from n m : ℕ) → phase_in (first_views (λ r. at_phase r Idle) from n) m ≡ Idle
first_idle from n m = read_first {V = QueueView} (λ v. v.phase) Idle (λ r. at_phase r Idle) (λ r. refl) from n m

-- where all views are idle all phases are
pub all_idle : (vs : List QueueView) → ((r : ℕ) (v : QueueView) → slice_get vs r ≡ Some v → v.phase ≡ Idle) → (m : ℕ) → phase_in vs m ≡ Idle
all_idle vs f m = read_all {V = QueueView} (λ v. v.phase) Idle vs f m

-- no act is planned exactly where a rank is out or inside
pub rests_at : (n k : ℕ) (p : Phase) → Calm p → (plan_at (dmcs_names n) k p ≡ None) ↔ Rests (standing_of p)
rests_at n k Idle calm = (λ e. tt, λ t. refl)
rests_at n k Settle calm = absurd calm
rests_at n k (Granted left) calm = (λ e. tt, λ t. refl)
rests_at n k (Above succ) calm = absurd calm
rests_at n k _ calm = (λ e. cc, λ t. absurd t)
