-- What is said of each shard of a machine and of each state of a shard that threads share, by its table, its words and the views of its
-- ranks.
use Rattle.std.specs.Prelude.{◌≡◌, ℕ, List, length, map, slice_get, Some}
use Rattle.rl_step.specs.Do.{TheWindow}
use Rattle.rl_core.specs.ShardTables.{ShardTable}
use Rattle.rl_core.specs.Moments.{CoreSays}
use Rattle.rl_machine.specs.Running.{ShardRun, Running}
use Rattle.rl_machine.specs.Run.{run_of, AreThere}
use Rattle.rl_shard.specs.declared.shard.Shard.{Shard}
use Rattle.rl_shard.specs.declared.counting.CountedView.{CountedView}
use Rattle.rl_shard.specs.Counting.{counting_rule, whole_of}
use Rattle.rl_shard.specs.Shards.{counting_at, table_at}

-- what is said of a shard
abbrev pub OfShard : Type 0 → Type 1
OfShard V = ShardTable V → TheWindow → List V → Type 0

-- it holds of each shard of a machine
abbrev pub EachShard : {V : Type 0} → OfShard V → Running V → Type 0
EachShard P m = (s : ℕ) (S : ShardRun _) → slice_get m.shards s ≡ Some S → P S.table S.held S.views

-- and whatever steps of its ranks follow
abbrev pub EachMoment : {V : Type 0} → OfShard V → Running V → Type 0
EachMoment P m = (ks : List ℕ) → AreThere (length m.calls) ks → EachShard P (run_of m ks)

-- it holds of a shard that threads share in each state of its window that meets its rule
abbrev pub EachState : {C V : Type 0} → (C → CoreSays V) → OfShard V → Shard C V → Type 0
EachState says P shard = (h : TheWindow) (vs : List (CountedView _)) → counting_rule says (counting_at shard) h vs → P (table_at says shard) h (map whole_of vs)
