-- A rank's machine on one shard by its parts: its lock, and how its blocks are done.
use Rattle.std.specs.Prelude.{◌≡◌, ℕ, ◌+◌, List}
use Rattle.rl_step.specs.declared.events.Event.{Event}
use Rattle.rl_word.specs.Shapes.{TheShape}
use Rattle.rl_word.specs.declared.shapes.Knobs.{Knobs}
use Rattle.rl_step.specs.Lock.{LockTable, LockState, LockLaws, Deed}
use Rattle.rl_word.specs.Acts.{Layout}
use Rattle.rl_site.specs.Site.{Site, lock_base}
use Rattle.rl_work.specs.Ways.{WorkTable, WorkSide, WorkLaws}
use Rattle.rl_rank.specs.declared.whole.Whole.{Whole}

-- a shard's lock, the window's number of its first word, and how the shard's blocks are done, with the shard's site
pub record LockAt (V K : Type 0) : Type 0 where
  pub base : ℕ
  pub table : LockTable V
  pub work : WorkTable K

-- the tables of a kind of lock and of a way of working
pub record Tables (A W V K : Type 0) : Type 0 where
  pub lock : A → LockTable V
  pub work : W → WorkTable K

abbrev pub tables : {A W V K : Type 0} → (A → LockTable V) → (W → WorkTable K) → Tables A W V K
tables lock work = record { lock = lock; work = work }

-- which states are good, for the lock and for the work of one shard, and for those of a kind
pub record Goods (V K : Type 0) : Type 1 where
  pub lock : LockState V → Type 0
  pub work : List ℕ → List (WorkSide K) → Type 0

pub record Rules (A W V K : Type 0) : Type 1 where
  pub lock : A → LockState V → Type 0
  pub work : W → List ℕ → List (WorkSide K) → Type 0

abbrev pub goods : {A W V K : Type 0} → (A → LockState V → Type 0) → (W → List ℕ → List (WorkSide K) → Type 0) → Rules A W V K
goods lock work = record { lock = lock; work = work }

abbrev pub good_at : {A W V K : Type 0} → Rules A W V K → Whole A W V K → Goods V K
good_at good core = record { lock = good.lock core.algo; work = good.work core.work }

-- the lock of a machine's core
abbrev pub lock_at : {A W V K : Type 0} → Tables A W V K → Whole A W V K → LockAt V K
lock_at table core = record { base = core.base; table = table.lock core.algo; work = table.work core.work }

-- the laws of both
pub record BothLaws {V K : Type 0} (L : LockAt V K) (good : Goods V K) (further : List Event → List Deed → Type 0) (layout : Layout) : Type 0 where
  pub lock : LockLaws L.table good.lock further layout
  pub work : WorkLaws L.work good.work

-- a kind of lock and a way of working, by a site and the number of the first word behind the lock's
pub record Kind (V K : Type 0) : Type 0 where
  pub lock : LockTable V
  pub work : Site → ℕ → WorkTable K

-- as they are defined, by a shape, the home of the shard, and the settings
abbrev pub kinds : {V K : Type 0} → (TheShape → ℕ → Knobs → LockTable V) → (TheShape → ℕ → Site → ℕ → WorkTable K) → TheShape → ℕ → Knobs → Kind V K
kinds lock work shape home knobs = record { lock = lock shape home knobs; work = work shape home }

-- a lock whose words stand behind the journal of a site, and the work's own behind them
abbrev pub lock_with : {V K : Type 0} → Kind V K → Site → LockAt V K
lock_with T site = record { base = lock_base site; table = T.lock; work = T.work site (lock_base site + T.lock.size) }

-- a machine's core has this lock behind the journal of this site
abbrev pub HasLock : {A W V K : Type 0} → Tables A W V K → Kind V K → Site → Whole A W V K → Type 0
HasLock table kind site core = lock_at table core ≡ lock_with kind site
