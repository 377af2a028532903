-- What a sweep promises of runs of a machine: what it has found posted it has done before it leaves.
use Rattle.std.specs.Prelude.{◌≡◌, ℕ, ◌<◌, false, List, ◌∷◌, ◌++◌, length, slice_get, Some}
use Rattle.rl_word.specs.declared.acts.Atom.{Atom}
use Rattle.rl_word.specs.declared.acts.Atom.TheVariants.{Store}
use Rattle.rl_core.specs.Standings.{leaves}
use Rattle.rl_combine.specs.Combine.{TheCombineSide}
use Rattle.rl_combine.specs.Posts.{flag_word}
use Rattle.rl_machine.specs.Running.{ShardRun, Running}
use Rattle.rl_step.specs.Traces.{events_of}
use Rattle.rl_machine.specs.Run.{place_of, opens, trace_of, run_of, AreThere}
use Rattle.rl_rank.specs.declared.whole.WholeView.{WholeView}
use Rattle.rl_locks.specs.Combining.{posts, HasFound}

-- one of rank k's steps in a run of these ranks makes this atom on shard s: the rank stands there, with no block to open
pub record MakesIn {V : Type 0} (m : Running V) (ks : List ℕ) (s k : ℕ) (at : Atom) : Type 0 where
  pub before : List ℕ
  pub rest : List ℕ
  pub is : ks ≡ before ++ k ∷ rest
  pub stands : place_of (run_of m before) k ≡ s
  pub goes_on : opens (run_of m before) k ≡ false
  pub shard : ShardRun V
  pub has : slice_get (run_of m before).shards s ≡ Some shard
  pub view : V
  pub there : slice_get shard.views k ≡ Some view
  pub next : shard.table.core.next view ≡ Some at

-- how often rank k has left shard s as a writer
abbrev pub left_so_far : {V : Type 0} → Running V → ℕ → ℕ → ℕ
left_so_far m s k = leaves k (events_of (trace_of m s))

-- a rank whose sweep has found the flag 1 of an owner stores 2 there before it leaves, whatever ranks make steps: up to that store it has
-- left no more often than at the start
abbrev pub StoresTwoFirst : {V : Type 0} → Running (WholeView V TheCombineSide) → Type 0
StoresTwoFirst m =
    (ks : List ℕ) (s k owner : ℕ) (S : ShardRun _) (x : _) → AreThere
    (length m.calls) ks → slice_get m.shards s ≡ Some S → HasFound S.table S.held S.views k owner x → left_so_far m s k < left_so_far
    (run_of m ks) s k →
    (made : MakesIn m ks s k (Store (flag_word (posts S.table) owner) 2)) × (left_so_far (run_of m made.before) s k ≡ left_so_far m s k)
