-- The seats that are live at one moment: those of the ranks, while the window's table keeps its rule.
use Rattle.std.specs.Prelude.{◌≡◌, ℕ}
use mathlib.Core.Option.{some}
use lib.ListN.{get_elem?}
use Rattle.atomic_table.specs.Table.{State}
use Rattle.rl_step.specs.declared.events.Standing.TheVariants.{Writer}
use Rattle.rl_step.specs.Lock.{IsHolder}
use Rattle.rl_core.specs.ShardTables.{ShardTable}
use Rattle.rl_core.specs.Moments.{CoreSays}
use Rattle.rl_window.specs.declared.knows.Knows.{Knows}
use Rattle.rl_window.specs.declared.knows.Knows.TheVariants.{Rank}
use Rattle.rl_window.specs.declared.knows.RankKnows.{RankKnows}
use Rattle.rl_window.specs.declared.knows.Setup.{Setup}
use Rattle.rl_window.specs.Rule.{IsRuled}
use Rattle.rl_shard.specs.declared.shard.Shard.{Shard}
use Rattle.rl_shard.specs.declared.counting.Counting.{Counting}
use Rattle.rl_shard.specs.declared.counting.CountedView.{CountedView}
use Rattle.rl_shard.specs.Counting.{standing_of, counting_rule}
use Rattle.rl_shard.specs.Shards.{counting_at}

-- what the window's table holds: its words, and what each seat knows
abbrev pub TableState : Type 0 → Type 0 → Type 0
TableState C V = State ℕ (Knows (Counting C V) (CountedView V))

-- where one rank's live seat stands as a writer no other live seat stands as a holder
abbrev pub LiveExclude : {C V : Type 0} → ShardTable V → TableState C V → Type 0
LiveExclude T s =
    (i j : ℕ) (r q : RankKnows (Counting _ _) (CountedView _)) → get_elem? s.views i ≡ some (Rank r) → get_elem? s.views j ≡ some (Rank q) →
    standing_of T r.view ≡ Writer → IsHolder (standing_of T q.view) → i ≡ j

-- this holds in each state of the table of the shard's window that keeps the rule
abbrev pub AtEachTable : {C V : Type 0} → (C → CoreSays V) → Shard C V → (TableState C V → Type 0) → Type 0
AtEachTable says shard P = (key : Setup (Counting _ _) (CountedView _)) (s : TableState _ _) → IsRuled (counting_rule says) key s → key.core ≡ counting_at shard → P s
