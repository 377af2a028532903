-- Cores by themselves, which are those of a machine's shards.
use Rattle.std.specs.Prelude.{◌≡◌, ℕ, List, map, slice_index}
use Rattle.rl_place.specs.Places.{ThePlace}
use Rattle.rl_place.specs.Shapes.{shape_of, knobs_of}
use Rattle.rl_core.specs.ShardTables.{ShardTable, site_with}
use Rattle.rl_core.specs.Moments.{CoreSays}
use Rattle.rl_machine.specs.Running.{ShardRun, Running}
use Rattle.rl_locks.specs.Kinds.{Defined}

-- the tables of a machine's shards
abbrev pub tables_of : {V : Type 0} → Running V → List (ShardTable V)
tables_of m = map (λ (S : ShardRun _). S.table) m.shards

-- the cores, by number, have these tables
abbrev pub HaveTables : {C V : Type 0} → (C → CoreSays V) → List C → List (ShardTable V) → Type 0
HaveTables says cores tables = map (λ core. (says core).table) cores ≡ tables

-- the table of a placement's shard, in which the ranks make so many updates each, for a rank's machine as it is defined
abbrev pub table_with : {V : Type 0} → Defined V → ThePlace → ℕ → List ℕ → ShardTable V
table_with defined place shard updates = defined (shape_of place) (slice_index place.homes shard) (knobs_of place.lock) (site_with place.geom shard updates)
