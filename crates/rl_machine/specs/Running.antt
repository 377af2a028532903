-- A machine as a value: its shards, each with its table, and what the ranks ask for.
use Rattle.std.specs.Prelude.{ℕ, List, map, slice_set}
use Rattle.rl_model.specs.declared.call.Call.{Call}
use Rattle.rl_model.specs.declared.geom.Geom.{Geom}
use Rattle.rl_step.specs.declared.events.Event.{Event}
use Rattle.rl_step.specs.declared.tallies.Steps.{Steps}
use Rattle.rl_step.specs.Do.{TheWindow}
use Rattle.rl_step.specs.Lock.{Deed}
use Rattle.rl_step.specs.Traces.{events_of}
use Rattle.rl_core.specs.ShardTables.{ShardTable}
use Rattle.rl_core.specs.Moments.{Moment, CoreSays}

-- one shard as it runs: its table, which never changes, the words and cards, each rank's view, and the events with the numbers of their
-- steps
pub record ShardRun (V : Type 0) : Type 0 where
  pub table : ShardTable V
  pub held : TheWindow
  pub views : List V
  pub trace : List (ℕ × Event)

-- the whole machine: its shards; the size of the table; each rank's calls, and the size of the block that each call begins, with 0
-- for those that begin none; how many calls of each rank were opened; and how often each answer came
pub record Running (V : Type 0) : Type 0 where
  pub shards : List (ShardRun V)
  pub geom : Geom
  pub calls : List (List Call)
  pub sizes : List (List ℕ)
  pub opened : List ℕ
  pub steps : Steps

-- What contracts see of a shard: its core, which never changes, and all else. A core's table is made of functions, which the value
-- of a type can't hold; so it is read off the core.
pub record TheShard (C V : Type 0) : Type 0 where
  pub core : C
  pub held : TheWindow
  pub views : List V
  pub trace : List (ℕ × Event)

-- and of a machine
pub record TheMachine (C V : Type 0) : Type 0 where
  pub shards : List (TheShard C V)
  pub geom : Geom
  pub calls : List (List Call)
  pub sizes : List (List ℕ)
  pub opened : List ℕ
  pub steps : Steps

-- the shard by its table, for what its kind of cores says
abbrev pub shard_run : {C V : Type 0} → (C → CoreSays V) → TheShard C V → ShardRun V
shard_run says s = record { table = (says s.core).table; held = s.held; views = s.views; trace = s.trace }

-- the machine by its tables
abbrev pub running : {C V : Type 0} → (C → CoreSays V) → TheMachine C V → Running V
running says m = record { shards = map (shard_run says) m.shards; geom = m.geom; calls = m.calls; sizes = m.sizes; opened = m.opened; steps = m.steps }

-- the cores of shards, and of a machine, which never change
abbrev pub shard_cores : {C V : Type 0} → List (TheShard C V) → List C
shard_cores shards = map (λ s. s.core) shards

abbrev pub cores_of : {C V : Type 0} → TheMachine C V → List C
cores_of m = shard_cores m.shards

module _ {V : Type 0} where
  -- a moment of the shard: its trace without the numbers of steps, and these acts so far
  abbrev pub moment_of : ShardRun V → List Deed → Moment V
  moment_of S acts = record { held = S.held; views = S.views; trace = events_of S.trace; acts = acts }

  -- the shard once rank k has this view, and the machine then, with these counts
  abbrev pub viewed : ShardRun V → ℕ → V → ShardRun V
  viewed S k y = record { table = S.table; held = S.held; views = slice_set S.views k y; trace = S.trace }
