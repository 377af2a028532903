-- The atoms of a run on each shard, as the lock's words show them; and what a kind of lock promises of every run.
use Rattle.std.specs.Prelude.{◌≡◌, ◌==◌, ℕ, List, [], ◌∷◌, ◌++◌, if◌then◌else◌, slice_get, Some}
use Rattle.rl_word.specs.Shapes.{TheShape}
use Rattle.rl_word.specs.declared.shapes.Knobs.{Knobs}
use Rattle.rl_step.specs.declared.events.Event.{Event}
use Rattle.rl_step.specs.Transitions.{Transition}
use Rattle.rl_model.specs.declared.geom.Geom.{Geom}
use Rattle.rl_ops.specs.declared.ops.Ops.{Ops}
use Rattle.rl_site.specs.Site.{Site}
use Rattle.rl_core.specs.ShardTables.{ShardTable}
use Rattle.rl_machine.specs.Running.{Running}
use Rattle.rl_machine.specs.Start.{start_of}
use Rattle.rl_machine.specs.ShardSteps.{transitions_by}
use Rattle.rl_step.specs.Traces.{events_of}
use Rattle.rl_machine.specs.Run.{on_shard, place_of, block_opened, stepped, run_of, trace_of, OfEveryRun}

module _ {V : Type 0} where
  -- rank k's next atom, where it is made on shard s
  abbrev pub atom_there : Running V → ℕ → ℕ → List Transition
  atom_there m k s = if place_of m k == s then on_shard [] (transitions_by k) (slice_get m.shards s) else []

  abbrev pub step_there : Running V → ℕ → ℕ → List Transition
  step_there m k s = atom_there (block_opened m k) k s

  -- all atoms of a run that are made on shard s, in order
  abbrev pub transitions_on : Running V → List ℕ → ℕ → List Transition
  transitions_on m [] s = []
  transitions_on m (k ∷ ks) s = step_there m k s ++ transitions_on (stepped m k) ks s

  -- what is promised of events and atoms, said of this run on shard s
  abbrev pub SaysOn : (List Event → List Transition → Type 0) → Running V → List ℕ → ℕ → Type 0
  SaysOn promised m ks s = promised (events_of (trace_of (run_of m ks) s)) (transitions_on m ks s)

  -- what a kind of lock promises, said of this run on each shard
  abbrev pub EachSays : (TheShape → ℕ → Knobs → List Event → List Transition → Type 0) → TheShape → Knobs → List ℕ → Running V → List ℕ → Type 0
  EachSays promised shape knobs homes m ks = (s home : ℕ) → slice_get homes s ≡ Some home → SaysOn (promised shape home knobs) m ks s

  -- so of a run from the start
  abbrev pub RunSays : (TheShape → ℕ → Knobs → Site → ShardTable V) → (TheShape → ℕ → Knobs → List Event → List Transition → Type 0) →
      TheShape → Knobs → Geom → List ℕ → Ops → List ℕ → Type 0
  RunSays defined promised shape knobs geom homes ops ks = EachSays promised shape knobs homes (start_of defined shape knobs geom homes ops) ks

  -- and of every run of so many ranks
  abbrev pub EverSays : (TheShape → ℕ → Knobs → List Event → List Transition → Type 0) → TheShape → Knobs → List ℕ → ℕ → Running V → Type 0
  EverSays promised shape knobs homes n m = OfEveryRun n (EachSays promised shape knobs homes m)
