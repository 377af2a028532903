-- How urgently the ranks of each kind of lock go on at a shard, where somebody is to go next: apart from the kinds, since no promise of a replay or a
-- run needs it.
use Rattle.std.specs.Prelude.{◌≡◌, ℕ, List, length, Option}
use Rattle.rl_word.specs.Shapes.{TheShape}
use Rattle.rl_word.specs.declared.shapes.Knobs.{Knobs}
use Rattle.rl_step.specs.Lock.{LockTable}
use Rattle.rl_spin.specs.Spin.{spin_table}
use Rattle.rl_spin.specs.SpinUrgency.{spin_urgent}
use Rattle.rl_queue.specs.Dmcs.{dmcs_table}
use Rattle.rl_queue.specs.DmcsUrgency.{dmcs_urgent}
use Rattle.rl_alock.specs.declared.view.AlockView.{AlockView}
use Rattle.rl_alock.specs.AlockUrgency.{alock_urgent}
use Rattle.rl_mcs.specs.Mcs.{mcs_table, mcs_tree}
use Rattle.rl_mcs.specs.McsUrgency.{mcs_urgent}
use Rattle.rl_rw.specs.Rw.{shared_in, rw_table}
use Rattle.rl_rw.specs.RwUrgency.{rw_urgent}
use Rattle.rl_site.specs.Site.{Site}
use Rattle.rl_core.specs.Moments.{CoreSays}
use Rattle.rl_rank.specs.declared.whole.WholeView.{WholeView}
use Rattle.rl_rank.specs.Running.{lock_with, kinds}
use Rattle.rl_rank.specs.WholeGuiding.{whole_urgent}
use Rattle.rl_place.specs.declared.lock.Lock.{Lock}
use Rattle.rl_place.specs.declared.lock.Lock.TheVariants as lock
use Rattle.rl_locks.specs.Kinds.{Defined, Way, locked, optimistic, combining, cohorts, cohort_lock, spin, dmcs, alock, mcs, rw, seq, combine, lock_kind_of}

-- How urgently a rank goes on, by the shape, the shard's home, the settings and the site, the shard's words and what the rank knows: the smaller number
-- first, and none of who waits for others or has no block open.
abbrev pub Urgent : Type 0 → Type 0
Urgent V = TheShape → ℕ → Knobs → Site → List ℕ → V → Option ℕ

-- Each of these cores lets its ranks go on as it is defined: as urgently as that says, where its machine is the defined one.
abbrev pub GoesAsDefined : {C V : Type 0} → (C → CoreSays V) → (C → List ℕ → V → Option ℕ) → Defined V → Urgent V → Type 0
GoesAsDefined says urgency defined urgent =
    (core : _) (shape : TheShape) (home : ℕ) (knobs : Knobs) (site : Site) (words : List ℕ) (v : _) → (says core).table ≡ defined shape home knobs site →
    urgency core words v ≡ urgent shape home knobs site words v

-- what comes of something is so by each definition of urgency by which these cores let their ranks go on
abbrev pub EachUrgency : {C V Out : Type 0} → (C → CoreSays V) → (C → List ℕ → V → Option ℕ) → Defined V → (Urgent V → Out → Type 0) → Out → Type 0
EachUrgency says urgency defined gives out = (urgent : Urgent _) → GoesAsDefined says urgency defined urgent → gives urgent out

-- under a lock, by how urgently ranks go on at the lock itself, and the way in which blocks are done
abbrev pub urgent_under : {V K : Type 0} → (TheShape → ℕ → Knobs → LockTable V) → (TheShape → ℕ → Knobs → List ℕ → V → Option ℕ) → Way K → Urgent (WholeView V K)
urgent_under lock urgent way shape home knobs site = whole_urgent (lock_with (kinds lock way shape home knobs) site) (urgent shape home knobs)

abbrev pub urgent_on_spin : Urgent spin.View
urgent_on_spin = urgent_under (λ shape home knobs. spin_table home) (λ shape home knobs. spin_urgent) locked

abbrev pub urgent_on_dmcs : Urgent dmcs.View
urgent_on_dmcs = urgent_under (λ shape home knobs. dmcs_table home shape.node_of) (λ shape home knobs. dmcs_urgent (length shape.node_of)) locked

abbrev pub cohort_urgent : TheShape → ℕ → Knobs → List ℕ → AlockView → Option ℕ
cohort_urgent shape home knobs = alock_urgent (cohorts shape home knobs)

abbrev pub urgent_on_alock : Urgent alock.View
urgent_on_alock = urgent_under cohort_lock cohort_urgent locked

abbrev pub urgent_on_mcs : Urgent mcs.View
urgent_on_mcs = urgent_under (λ shape home knobs. mcs_table (mcs_tree home shape)) (λ shape home knobs. mcs_urgent (mcs_tree home shape)) locked

abbrev pub urgent_on_rw : Urgent rw.View
urgent_on_rw = urgent_under (λ shape home knobs. rw_table (shared_in home shape knobs)) (λ shape home knobs. rw_urgent (shared_in home shape knobs)) locked

abbrev pub urgent_on_seq : Urgent seq.View
urgent_on_seq = urgent_under cohort_lock cohort_urgent optimistic

abbrev pub urgent_on_combine : Urgent combine.View
urgent_on_combine = urgent_under cohort_lock cohort_urgent combining

-- under a placement's lock
abbrev pub urgency_of : (lock : Lock) → Urgent (lock_kind_of lock).View
urgency_of lock.Spin = urgent_on_spin
urgency_of lock.Dmcs = urgent_on_dmcs
urgency_of (lock.Alock local remote) = urgent_on_alock
urgency_of (lock.Mcs budgets) = urgent_on_mcs
urgency_of (lock.Rw budgets writers readers group) = urgent_on_rw
urgency_of (lock.Seq local remote) = urgent_on_seq
urgency_of (lock.Combine local remote) = urgent_on_combine
