-- What is true of a machine at every moment of a run.
use Rattle.std.specs.Prelude.{◌≡◌, ℕ, false, ◌<◌, ◌≤◌, ◌^◌, List, count_by, length, map, slice_get, slice_index, Some}
use Rattle.rl_model.specs.declared.call.Call.{Call}
use Rattle.rl_model.specs.declared.geom.Geom.{Geom}
use Rattle.rl_step.specs.Lock.{Deed}
use Rattle.rl_model.specs.Geom.{GeomFits}
use Rattle.rl_ops.specs.Ops.{total_calls}
use Rattle.rl_core.specs.Asks.{AreBlocks, is_update_on}
use Rattle.rl_core.specs.Moments.{CoreSays}
use Rattle.rl_machine.specs.Running.{ShardRun, Running, TheMachine, running, cores_of, moment_of}
use Rattle.rl_machine.specs.EventOrder.{AreTold}
use Rattle.rl_step.specs.Answers.{steps_made}
use Rattle.rl_core.specs.RankGood.{RankGood}
use Rattle.rl_machine.specs.Run.{desks_by, calls_by, sizes_by, place_of}

module _ {C V : Type 0} (says : C → CoreSays V) where
  -- shard s over its core: its table and its site are the core's; it has a view for each rank, and room for all updates that the ranks
  -- ask for; and all is true of it that is true of a shard
  pub record IsShardOf (geom : Geom) (calls : List (List Call)) (s : ℕ) (core : C) (acts : List Deed) (S : ShardRun V) : Type 0 where
    pub table_is : S.table ≡ (says core).table
    pub geom_is : (says core).table.site.geom ≡ geom
    pub shard_is : (says core).table.site.shard ≡ s
    pub rooms_are : (says core).table.site.rooms ≡ map (count_by (is_update_on geom s)) calls
    pub ranks : length S.views ≡ length calls
    pub is_good : (says core).good (moment_of S acts)

  -- the machine over its cores, with the acts of each shard so far
  pub record MachineGood (cores : List C) (acts : List (List Deed)) (m : Running V) : Type 0 where
    pub all : length m.shards ≡ length cores
    pub all_acts : length acts ≡ length cores
    pub many : length m.shards ≡ m.geom.shards
    pub shards : (s : ℕ) (S : ShardRun V) (core : C) (ds : List Deed) → slice_get m.shards s ≡ Some S → slice_get cores s ≡ Some core → slice_get acts s ≡ Some ds →
        IsShardOf m.geom m.calls s core ds S
    -- the events so far are of steps that were counted
    pub told : (s : ℕ) (S : ShardRun V) → slice_get m.shards s ≡ Some S → AreTold (steps_made m.steps) S.trace
    pub all_opened : length m.opened ≡ length m.calls
    -- each rank asks for blocks, one after the other
    pub blocks : (k : ℕ) → AreBlocks m.geom (calls_by m k) (sizes_by m k)
    pub few : (k : ℕ) → length (calls_by m k) ≤ 2 ^ 32
    -- where a core does no batches each block is a call alone
    pub takes : (s : ℕ) (core : C) → slice_get cores s ≡ Some core → (says core).table.batches ≡ false → (k i : ℕ) → slice_index (sizes_by m k) i ≤ 1
    pub stands : (k : ℕ) → k < length m.calls → place_of m k < length m.shards
    pub ranks : (k : ℕ) → k < length m.calls → RankGood m.geom (calls_by m k) (sizes_by m k) (slice_index m.opened k) (desks_by m k) k

-- what is true of a machine at every moment: after some acts on its shards, all that MachineGood says; and it has few calls
pub record IsMachine {C V : Type 0} (says : C → CoreSays V) (m : TheMachine C V) : Type 0 where
  pub acts : List (List Deed)
  pub is_good : MachineGood says (cores_of m) acts (running says m)
  pub fits : GeomFits m.geom
  pub few : total_calls m.calls ≤ 20000
