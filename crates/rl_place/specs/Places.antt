-- A placement as plain lists, and which placements are proper.
use Rattle.std.specs.Prelude.{◌≡◌, ℕ, ◌≤◌, ◌<◌, List, length}
use Rattle.std.specs.List.{AllByRecursion}
use Rattle.rl_model.specs.declared.geom.Geom.{Geom}
use Rattle.rl_model.specs.Geom.{GeomFits}
use Rattle.rl_place.specs.declared.path.Path.{Path}
use Rattle.rl_place.specs.declared.lock.Lock.{Lock}
use Rattle.rl_place.specs.declared.lock.Lock.TheVariants.{Spin, Dmcs, Alock, Mcs, Rw, Seq, Combine}
use Rattle.rl_place.specs.declared.limits.TheConstants.{MOST_BUDGET, MOST_RANKS}
use Rattle.rl_place.specs.Paths.{IsPath}
use Rattle.rl_place.specs.Numbering.{node_paths}

-- how many numbers a path has, the lock and its settings, the size of the table, the path of each rank, and the node
-- where the words of each shard live
pub record ThePlace : Type 0 where
  pub levels : ℕ
  pub lock : Lock
  pub geom : Geom
  pub paths : List Path
  pub homes : List ℕ

-- a budget for each level
pub record BudgetsFit (levels : ℕ) (budgets : List ℕ) : Type 0 where
  pub each_level : length budgets ≡ levels
  pub small : AllByRecursion (λ budget. budget ≤ MOST_BUDGET) budgets

-- the limits of the settings of RMA-RW
pub record RwFits (levels : ℕ) (budgets : List ℕ) (writers readers group : ℕ) : Type 0 where
  pub each : BudgetsFit levels budgets
  pub most_writers : writers ≤ MOST_BUDGET
  pub some_readers : 1 ≤ readers
  pub most_readers : readers ≤ MOST_BUDGET
  pub some_group : 1 ≤ group
  pub most_group : group ≤ MOST_RANKS

-- the limits of a lock's settings
abbrev pub LockFits : ℕ → Lock → Type 0
LockFits levels Spin = Unit {0}
LockFits levels Dmcs = Unit {0}
LockFits levels (Alock local remote) = (local ≤ MOST_BUDGET) × (remote ≤ MOST_BUDGET)
LockFits levels (Mcs budgets) = BudgetsFit levels budgets
LockFits levels (Rw budgets writers readers group) = RwFits levels budgets writers readers group
LockFits levels (Seq local remote) = (local ≤ MOST_BUDGET) × (remote ≤ MOST_BUDGET)
LockFits levels (Combine local remote) = (local ≤ MOST_BUDGET) × (remote ≤ MOST_BUDGET)

-- A placement is proper where its numbers are in their limits, each path has as many numbers as there are levels, and
-- each shard has a home on which a rank sits.
pub record IsProper (place : ThePlace) : Type 0 where
  pub some_levels : 1 ≤ place.levels
  pub most_levels : place.levels ≤ 3
  pub lock : LockFits place.levels place.lock
  pub geom : GeomFits place.geom
  pub some_ranks : 1 ≤ length place.paths
  pub most_ranks : length place.paths ≤ MOST_RANKS
  pub paths : AllByRecursion (λ path. IsPath place.levels path) place.paths
  pub each_shard : length place.homes ≡ place.geom.shards
  pub homes : AllByRecursion (λ home. home < length (node_paths place.paths)) place.homes
