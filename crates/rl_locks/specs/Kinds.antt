-- The kinds of locks, each with the way in which blocks are done under it. One place says which kind guards the shards of a placement
-- (`lock_kind_of`): for a replay and for a run by threads, for their reports and for what is promised.
use Rattle.std.specs.Prelude.{ℕ, List}
use Rattle.rl_word.specs.Shapes.{TheShape}
use Rattle.rl_word.specs.declared.shapes.Knobs.{Knobs}
use Rattle.rl_step.specs.declared.events.Event.{Event}
use Rattle.rl_step.specs.Lock.{LockTable, no_more}
use Rattle.rl_step.specs.Transitions.{Transition}
use Rattle.rl_spin.specs.Spin.{spin_table}
use Rattle.rl_queue.specs.Dmcs.{dmcs_table}
use Rattle.rl_alock.specs.declared.view.AlockView.{AlockView}
use Rattle.rl_alock.specs.Alock.{Cohorts, alock_table, BoundsOvertaking}
use Rattle.rl_mcs.specs.Mcs.{mcs_table, mcs_tree}
use Rattle.rl_rw.specs.Rw.{shared_in, rw_table, BoundsBatches}
use Rattle.rl_site.specs.Site.{Site, WaySite}
use Rattle.rl_work.specs.Work.{TheWork}
use Rattle.rl_work.specs.Ways.{WorkTable}
use Rattle.rl_work.specs.Locked.{locked_table}
use Rattle.rl_seq.specs.SeqWork.{TheSeqWork, seq_table}
use Rattle.rl_combine.specs.Posts.{node_in}
use Rattle.rl_combine.specs.Combine.{TheCombineSide, combine_table}
use Rattle.rl_core.specs.ShardTables.{ShardTable}
use Rattle.rl_rank.specs.declared.whole.WholeView.{WholeView}
use Rattle.rl_rank.specs.Running.{lock_with, kinds}
use Rattle.rl_rank.specs.WholeShards.{whole_shard}
use Rattle.rl_locks.specs.OnShards.{OfShard}
use Rattle.rl_locks.specs.Holding.{KeepsReads}
use Rattle.rl_locks.specs.Optimistic.{KeepsGets}
use Rattle.rl_locks.specs.Combining.{KeepsCombining}
use Rattle.rl_place.specs.declared.lock.Lock.{Lock}
use Rattle.rl_place.specs.declared.lock.Lock.TheVariants as lock

-- a rank's machine on a shard, by the shape, the shard's home, the settings and the site
abbrev pub Defined : Type 0 → Type 0
Defined V = TheShape → ℕ → Knobs → Site → ShardTable V

-- by the first three, what is promised of the events on the shard and of its atoms, by the lock's words before and after each
abbrev pub Promised : Type 1
Promised = TheShape → ℕ → Knobs → List Event → List Transition → Type 0

-- A kind of lock: what a rank knows on one shard; the rank's machine there; what the kind promises of events and acts beyond what every lock
-- promises; and what its way of doing blocks promises of a shard's words and of its ranks' views.
pub record LockKind : Type 1 where
  pub View : Type 0
  pub defined : Defined View
  pub promised : Promised
  pub ways : OfShard View

abbrev pub kind_by : {V : Type 0} → Defined V → Promised → OfShard V → LockKind
kind_by {V} defined promised ways = record { View = V; defined = defined; promised = promised; ways = ways }

-- how blocks are done, by the shape, the shard's home, the site, and the number of the first word behind the lock's
abbrev pub Way : Type 0 → Type 0
Way K = TheShape → ℕ → Site → ℕ → WorkTable K

-- each block under the lock
abbrev pub locked : Way TheWork
locked shape home = locked_table

-- optimistic readers: a get alone without the lock, and any other block under it
abbrev pub optimistic : Way TheSeqWork
optimistic shape home site behind = seq_table (record { site = site; behind = behind }) home

-- flat combining: the posted calls of all ranks by whoever has the lock
abbrev pub combining : Way TheCombineSide
combining shape home site behind =
    let here : WaySite = record { site = site; behind = behind } in
    combine_table here (node_in (record { here = here; nodes = shape.node_of }))

-- the machine that does blocks in this way under the lock which is defined so
abbrev pub under : {V K : Type 0} → (TheShape → ℕ → Knobs → LockTable V) → Way K → Defined (WholeView V K)
under lock way shape home knobs site = whole_shard (lock_with (kinds lock way shape home knobs) site) home

-- a lock that is defined so and promises this beyond every lock, with each block under it
abbrev pub plain : {V : Type 0} → (TheShape → ℕ → Knobs → LockTable V) → Promised → LockKind
plain {V} lock promised = record { View = WholeView V TheWork; defined = under lock locked; promised = promised; ways = KeepsReads }

abbrev pub spin : LockKind
spin = plain (λ shape home knobs. spin_table home) (λ shape home knobs. no_more)

abbrev pub dmcs : LockKind
dmcs = plain (λ shape home knobs. dmcs_table home shape.node_of) (λ shape home knobs. no_more)

abbrev pub cohorts : TheShape → ℕ → Knobs → Cohorts
cohorts shape home knobs = record { home = home; node_of = shape.node_of; local = knobs.local; remote = knobs.remote }

abbrev pub cohort_lock : TheShape → ℕ → Knobs → LockTable AlockView
cohort_lock shape home knobs = alock_table (cohorts shape home knobs)

-- after each announcement of a cohort, and until it enters, the other enters at most as often as its budget and once more
abbrev pub bounds_cohorts : Promised
bounds_cohorts shape home knobs = BoundsOvertaking (cohorts shape home knobs)

abbrev pub alock : LockKind
alock = plain cohort_lock bounds_cohorts

abbrev pub mcs : LockKind
mcs = plain (λ shape home knobs. mcs_table (mcs_tree home shape)) (λ shape home knobs. no_more)

-- while no atom lowers the arrive word of a group at most as many readers of the group enter as the settings say
abbrev pub rw : LockKind
rw = plain (λ shape home knobs. rw_table (shared_in home shape knobs)) (λ shape home knobs. BoundsBatches (shared_in home shape knobs))

-- these two stand on ALock, and promise what it does
abbrev pub seq : LockKind
seq = record { View = WholeView AlockView TheSeqWork; defined = under cohort_lock optimistic; promised = bounds_cohorts; ways = KeepsGets }

abbrev pub combine : LockKind
combine = record { View = WholeView AlockView TheCombineSide; defined = under cohort_lock combining; promised = bounds_cohorts; ways = KeepsCombining }

-- the kind of a placement's lock
abbrev pub lock_kind_of : Lock → LockKind
lock_kind_of lock.Spin = spin
lock_kind_of lock.Dmcs = dmcs
lock_kind_of (lock.Alock local remote) = alock
lock_kind_of (lock.Mcs budgets) = mcs
lock_kind_of (lock.Rw budgets writers readers group) = rw
lock_kind_of (lock.Seq local remote) = seq
lock_kind_of (lock.Combine local remote) = combine
