-- The acts of the locks that a run decides on each shard, in order: what a proof of a lock's promises speaks of.
use Rattle.std.specs.Prelude.{ℕ, List, [], ◌∷◌, ◌++◌, get_or, slice_get, slice_set}
use Rattle.rl_step.specs.Lock.{Deed}
use Rattle.rl_machine.specs.Running.{Running}
use Rattle.rl_machine.specs.ShardSteps.{deeds_on}
use Rattle.rl_machine.specs.Run.{on_shard, place_of, block_opened, stepped}

-- the acts of each shard, with these more on one
abbrev pub acts_with : List (List Deed) → ℕ → List Deed → List (List Deed)
acts_with acts s ds = slice_set acts s (get_or acts s [] ++ ds)

module _ {V : Type 0} where
  -- with those of rank k's next atom, at the shard where it stands
  abbrev pub atom_acts : List (List Deed) → Running V → ℕ → List (List Deed)
  atom_acts acts m k = acts_with acts (place_of m k) (on_shard [] (deeds_on k) (slice_get m.shards (place_of m k)))

  abbrev pub step_acts : List (List Deed) → Running V → ℕ → List (List Deed)
  step_acts acts m k = atom_acts acts (block_opened m k) k

  -- and with those of a whole run
  abbrev pub run_acts : List (List Deed) → Running V → List ℕ → List (List Deed)
  run_acts acts m [] = acts
  run_acts acts m (k ∷ ks) = run_acts (step_acts acts m k) (stepped m k) ks
