-- Who goes on at a machine that has no dead end: where a call is open, the chosen rank of the shard where the first rank stands that has one
-- open; else the first rank that has a call left.
use Rattle.std.specs.Prelude.{◌≡◌, ◌⊎◌, ℕ, ◌<◌, Bool, true, false, List, length, slice_get, Some}
use Rattle.rl_ending.specs.Guiding.{IsChosen}
use Rattle.rl_core.specs.ShardGuiding.{UrgentOf}
use Rattle.rl_machine.specs.Running.{ShardRun, Running}
use Rattle.rl_machine.specs.Run.{place_of, has_open_call, opens, IsAllClosed}

-- of the ranks that there are, so many, r is the first that has it so
pub record IsFirst (has_it : ℕ → Bool) (ranks r : ℕ) : Type 0 where
  pub there : r < ranks
  pub has : has_it r ≡ true
  pub before : (i : ℕ) → i < r → has_it i ≡ false

-- none of them has it so
abbrev pub NoneHas : (ℕ → Bool) → ℕ → Type 0
NoneHas has_it ranks = (i : ℕ) → i < ranks → has_it i ≡ false

module _ {C V : Type 0} (urgent : UrgentOf C V) (cores : List C) (m : Running V) where
  -- of the ranks on this shard r is the chosen one, as the shard's core says
  pub record IsChosenOn (shard r : ℕ) : Type 0 where
    pub core : C
    pub has_core : slice_get cores shard ≡ Some core
    pub state : ShardRun V
    pub has : slice_get m.shards shard ≡ Some state
    pub chosen : IsChosen (urgent core state.held.words) state.views r

  -- some rank has a call open, and r is chosen on the shard where the first such rank stands
  pub record GoesOnOpen (r : ℕ) : Type 0 where
    pub rank : ℕ
    pub in_call : IsFirst (has_open_call m) (length m.calls) rank
    pub chosen : IsChosenOn (place_of m rank) r

  -- no call of any rank is open, and r is the first that has one left, which its step opens
  pub record GoesToOpen (r : ℕ) : Type 0 where
    pub closed : IsAllClosed m
    pub first : IsFirst (opens m) (length m.calls) r

  -- rank r goes next
  abbrev pub GoesNext : ℕ → Type 0
  GoesNext r = GoesOnOpen r ⊎ GoesToOpen r
