-- The laws of the machine of a core, from those of its lock and of its way of working.
use Rattle.std.specs.Prelude.{ℕ, List}
use Rattle.rl_word.specs.Acts.{Layout}
use Rattle.rl_step.specs.declared.events.Event.{Event}
use Rattle.rl_step.specs.Lock.{LockLaws, Deed}
use Rattle.rl_step.specs.Core.{CoreLaws}
use Rattle.rl_work.specs.Ways.{WorkLaws}
use Rattle.rl_work.specs.WorkEnding.{WorkEnds}
use Rattle.rl_ending.specs.Ending.{LockEnds}
use Rattle.rl_ending.specs.Guiding.{UrgencyOf, LockGuides}
use Rattle.rl_core.specs.ShardLaws.{ShardCoreLaws}
use Rattle.rl_core.specs.ShardEnding.{ShardEnds}
use Rattle.rl_core.specs.ShardGuiding.{ShardGuides}
use Rattle.rl_rank.specs.declared.whole.Whole.{Whole}
use Rattle.rl_rank.specs.Running.{Tables, Rules, BothLaws, lock_at, good_at}
use Rattle.rl_rank.specs.Whole.{whole_table, rule_of}
use Rattle.rl_rank.specs.WholeShards.{core_says}
use Rattle.rl_rank.specs.WholeLeft.{whole_left, whole_most}
use Rattle.rl_rank.specs.WholeGuiding.{whole_urgent}
use Rattle.rl_rank.specs.laws.WholeLaws.{whole_laws}
use Rattle.rl_rank.specs.laws.WholeWall.{whole_shard_laws}
use Rattle.rl_rank.specs.laws.WholeEnding.{whole_ends}
use Rattle.rl_rank.specs.laws.WholeGuides.{whole_guides}

module _ {A W V K : Type 0} (table : Tables A W V K) (good : Rules A W V K) (further : A → List Event → List Deed → Type 0) (layout : A → Layout)
    (lock_laws : (a : A) → LockLaws (table.lock a) (good.lock a) (further a) (layout a)) (work_laws : (w : W) → WorkLaws (table.work w) (good.work w))
    (c : Whole A W V K) where
  -- those of both
  pub both_laws : BothLaws (lock_at table c) (good_at good c) (further c.algo) (layout c.algo)
  both_laws = record { lock = lock_laws c.algo; work = work_laws c.work }

  -- those of a core
  pub core_laws : CoreLaws (whole_table (lock_at table c) c.home) (rule_of table good layout c)
  core_laws = whole_laws V K (lock_at table c) (good_at good c) (further c.algo) (layout c.algo) both_laws c.home

  -- those of a shard
  pub core_shard_laws : ShardCoreLaws (core_says table good further layout c)
  core_shard_laws = whole_shard_laws V K (lock_at table c) (good_at good c) (further c.algo) (layout c.algo) both_laws c.home

  module _ (left : A → List ℕ → List V → ℕ) (most : A → ℕ) (ends : (a : A) → LockEnds (table.lock a) (left a) (good.lock a) (most a))
      (work_left : W → List ℕ → List K → ℕ) (work_most : W → ℕ) (work_ends : (w : W) → WorkEnds (table.work w) (good.work w) (work_left w) (work_most w)) where
    -- it has no dead end, where the lock and the work have none
    pub core_ends : ShardEnds (core_says table good further layout c) (whole_left (lock_at table c) (left c.algo) (most c.algo) (work_left c.work))
        (whole_most (lock_at table c) (left c.algo) (most c.algo) (work_left c.work) (work_most c.work))
    core_ends =
        whole_ends V K (lock_at table c) (good_at good c) (further c.algo) (layout c.algo) both_laws c.home (left c.algo) (most c.algo)
        (ends c.algo) (work_left c.work)
        (work_most c.work) (work_ends c.work)

    -- it says who goes on, where the lock does
    pub core_guides : (urgent : A → UrgencyOf V) → ((a : A) → LockGuides (table.lock a) (left a) (good.lock a) (urgent a)) →
        ShardGuides (core_says table good further layout c) (whole_left (lock_at table c) (left c.algo) (most c.algo) (work_left c.work))
        (whole_urgent (lock_at table c) (urgent c.algo))
    core_guides urgent guides =
        whole_guides V K (lock_at table c) (good_at good c) (further c.algo) (layout c.algo) both_laws c.home (left c.algo) (most c.algo)
        (ends c.algo) (work_left c.work)
        (work_most c.work) (work_ends c.work) (urgent c.algo) (guides c.algo)
