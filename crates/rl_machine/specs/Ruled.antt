-- A machine under the rules of its cores: what laws of one kind of cores rest on.
use Rattle.std.specs.Prelude.{◌≡◌, ℕ, true, List, slice_get, Some}
use Rattle.rl_step.specs.Lock.{Deed}
use Rattle.rl_core.specs.Moments.{CoreSays}
use Rattle.rl_machine.specs.Running.{ShardRun, Running}
use Rattle.rl_machine.specs.Run.{place_of}
use Rattle.rl_machine.specs.MachineGood.{IsShardOf}

module _ {C V : Type 0} (says : C → CoreSays V) (cores : List C) (m : Running V) where
  -- shard s stands on its core, and by some acts all is true of it that is true of a shard
  pub record IsRuled (s : ℕ) (S : ShardRun V) : Type 0 where
    pub core : C
    pub acts : List Deed
    pub has_core : slice_get cores s ≡ Some core
    pub is : IsShardOf says m.geom m.calls s core acts S

  -- so does each shard; and a rank whose block is open on a shard stands there
  pub record AreRuled : Type 0 where
    pub shards : (s : ℕ) (S : ShardRun V) → slice_get m.shards s ≡ Some S → IsRuled s S
    pub stands : (s k : ℕ) (S : ShardRun V) (x : V) → slice_get m.shards s ≡ Some S → slice_get S.views k ≡ Some x → (S.table.own x).is_open ≡ true → place_of m k ≡ s
