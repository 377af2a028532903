-- What no run changes: the tables of the shards, how many views each has, the size of the table, and what the ranks ask for.
use Rattle.std.proofs.Common.{◌≡◌, ℕ, ◌+◌, List, [], ◌∷◌, length, length-set, map, sum_by, slice_get, slice_set, Bool, true, false, Option, Some, None, refl, ap, sym, ◌∙◌}
use Rattle.std.proofs.lemmas.List.Sums.{sum_by-cons}
use Rattle.rl_word.specs.laws.Places.{map_set, set_same_get, get_map}
use Rattle.rl_word.specs.declared.acts.Atom.{Atom}
use Rattle.rl_model.specs.declared.call.Call.{Call}
use Rattle.rl_ops.specs.declared.schedule.Turn.{Turn}
use Rattle.rl_ops.specs.Schedule.{steps_of}
use Rattle.rl_core.specs.ShardTables.{ShardTable}
use Rattle.rl_machine.specs.Running.{ShardRun, Running}
use Rattle.rl_step.specs.Do.{do_got}
use Rattle.rl_machine.specs.ShardSteps.{opened_at, makes, made_at}
use Rattle.rl_machine.specs.Run.{changed_if, opens, opened_if, block_opened, atom_made, stepped, run_of, steps_in}

module _ {V : Type 0} where
  -- a change that leaves what is told of a shard leaves what is told of all
  same_told : {X : Type 0} (told : ShardRun V → X) (shards : List (ShardRun V)) (s : ℕ) (f : ShardRun V → ShardRun V) (found : Option (ShardRun V)) →
      slice_get shards s ≡ found → ((S : ShardRun V) → told (f S) ≡ told S) →
      map told (changed_if shards s f found) ≡ map told shards
  same_told told shards s f None e keeps = refl
  same_told told shards s f (Some S) e keeps =
      map_set told shards s (f S) ∙ ap (slice_set (map told shards) s) (keeps S) ∙ set_same_get (map told shards) s (told S) (get_map told shards s S e)

  -- a shard's table, and how many views it has
  abbrev pub table_in : ShardRun V → ShardTable V
  table_in S = S.table

  abbrev pub views_in : ShardRun V → ℕ
  views_in S = length S.views

  opened_table : (k : ℕ) (block : List Call) (seq : ℕ) (S : ShardRun V) (x : Option V) → (opened_at S k block seq x).table ≡ S.table
  opened_table k block seq S None = refl
  opened_table k block seq S (Some x) = refl

  makes_table : (k step : ℕ) (S : ShardRun V) (x : V) (at : Option Atom) → (makes S k step x at).table ≡ S.table
  makes_table k step S x None = refl
  makes_table k step S x (Some at) = refl

  made_table : (k step : ℕ) (S : ShardRun V) (x : Option V) → (made_at S k step x).table ≡ S.table
  made_table k step S None = refl
  made_table k step S (Some x) = makes_table k step S x (S.table.core.next x)

  opened_views : (k : ℕ) (block : List Call) (seq : ℕ) (S : ShardRun V) (x : Option V) → views_in (opened_at S k block seq x) ≡ views_in S
  opened_views k block seq S None = refl
  opened_views k block seq S (Some x) = length-set S.views k (S.table.opened block seq x)

  makes_views : (k step : ℕ) (S : ShardRun V) (x : V) (at : Option Atom) → views_in (makes S k step x at) ≡ views_in S
  makes_views k step S x None = refl
  makes_views k step S x (Some at) = length-set S.views k (S.table.core.after x (do_got at S.held.words S.held.cards)).view

  made_views : (k step : ℕ) (S : ShardRun V) (x : Option V) → views_in (made_at S k step x) ≡ views_in S
  made_views k step S None = refl
  made_views k step S (Some x) = makes_views k step S x (S.table.core.next x)

  -- what two machines have in common
  pub record IsAlike (m n : Running V) : Type 0 where
    pub tables : map table_in m.shards ≡ map table_in n.shards
    pub views : map views_in m.shards ≡ map views_in n.shards
    pub geom : m.geom ≡ n.geom
    pub calls : m.calls ≡ n.calls
    pub sizes : m.sizes ≡ n.sizes

  pub alike_then : (l m n : Running V) → IsAlike l m → IsAlike m n → IsAlike l n
  alike_then l m n a b = record { tables = a.tables ∙ b.tables; views = a.views ∙ b.views; geom = a.geom ∙ b.geom; calls = a.calls ∙ b.calls; sizes = a.sizes ∙ b.sizes }

  opened_alike : (m : Running V) (k : ℕ) (b : Bool) → IsAlike (opened_if m k b) m
  opened_alike m k false = record { tables = refl; views = refl; geom = refl; calls = refl; sizes = refl }
  opened_alike m k true =
      record {
        tables = same_told table_in m.shards _ _ _ refl (λ S. opened_table k _ _ S (slice_get S.views k));
        views = same_told views_in m.shards _ _ _ refl (λ S. opened_views k _ _ S (slice_get S.views k));
        geom = refl;
        calls = refl;
        sizes = refl;
      }

  made_alike : (m : Running V) (k : ℕ) → IsAlike (atom_made m k) m
  made_alike m k =
      record {
        tables = same_told table_in m.shards _ _ _ refl (λ S. made_table k _ S (slice_get S.views k));
        views = same_told views_in m.shards _ _ _ refl (λ S. made_views k _ S (slice_get S.views k));
        geom = refl;
        calls = refl;
        sizes = refl;
      }

  pub stepped_alike : (m : Running V) (k : ℕ) → IsAlike (stepped m k) m
  stepped_alike m k = alike_then (stepped m k) (block_opened m k) m (made_alike (block_opened m k) k) (opened_alike m k (opens m k))

  pub run_alike : (m : Running V) (ks : List ℕ) → IsAlike (run_of m ks) m
  run_alike m [] = record { tables = refl; views = refl; geom = refl; calls = refl; sizes = refl }
  run_alike m (k ∷ ks) = alike_then (run_of (stepped m k) ks) (stepped m k) m (run_alike (stepped m k) ks) (stepped_alike m k)

-- the steps of a schedule, counted turn by turn
pub steps_are : (turns : List Turn) → steps_in turns ≡ sum_by steps_of turns
steps_are [] = refl
steps_are (t ∷ ts) = ap (λ n. steps_of t + n) (steps_are ts) ∙ sym (sum_by-cons steps_of t ts)
