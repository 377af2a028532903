-- The code's state as values.
use Rattle.std.specs.Prelude.{◌≡◌, ℕ, List, map, slice_get, slice_set, Some}
use Rattle.rl_step.specs.declared.flat.Flat.{Flat}
use Rattle.rl_step.specs.declared.events.Event.{Event}
use Rattle.rl_step.specs.Lock.{Deed}
use Rattle.rl_core.specs.Moments.{Moment, CoreSays}
use Rattle.rl_machine.specs.declared.shard.ShardState.{ShardState}
use Rattle.rl_machine.specs.declared.state.MachineState.{MachineState}
use Rattle.rl_machine.specs.Running.{TheShard, ShardRun, TheMachine, Running, shard_run, running, shard_cores, moment_of, viewed}

-- a shard's vectors as lists
abbrev pub shard_view : {C V : Type 0} → ShardState C V → TheShard C V
shard_view s = record { core = s.core; held = s.flat.words; views = s.flat.views.items; trace = s.events.items }

-- and the shard as it runs
abbrev pub running_shard : {C V : Type 0} → (C → CoreSays V) → ShardState C V → ShardRun V
running_shard says s = shard_run says (shard_view s)

-- shards as they run, and their cores
abbrev pub running_shards : {C V : Type 0} → (C → CoreSays V) → List (ShardState C V) → List (ShardRun V)
running_shards says shards = map (shard_run says) (map shard_view shards)

abbrev pub cores_in : {C V : Type 0} → List (ShardState C V) → List C
cores_in shards = shard_cores (map shard_view shards)

-- a machine's vectors as lists
abbrev pub machine_view : {C V : Type 0} → MachineState C V → TheMachine C V
machine_view m = record { shards = map shard_view m.shards.items; geom = m.geom; calls = m.ops.by_rank; sizes = m.ops.sizes; opened = m.opened.items; steps = m.steps }

-- and the machine as it runs
abbrev pub running_machine : {C V : Type 0} → (C → CoreSays V) → MachineState C V → Running V
running_machine says m = running says (machine_view m)

-- it is so of the view of this rank, if it has one
abbrev pub OfView : {V : Type 0} → List V → ℕ → (V → Type 0) → Type 0
OfView views rank P = (x : _) → slice_get views rank ≡ Some x → P x

-- the view of this rank, if it has one, becomes what f makes of it, and the others stay
abbrev pub ViewBecomes : {C V : Type 0} → Flat C V → Flat C V → ℕ → (V → V) → Type 0
ViewBecomes old new rank f = OfView old.views.items rank (λ x. new.views.items ≡ slice_set old.views.items rank (f x))

-- and so on a shard, where all else stays
abbrev pub OnlyViewBecomes : {V : Type 0} → ShardRun V → ShardRun V → ℕ → (V → V) → Type 0
OnlyViewBecomes old new rank f = OfView old.views rank (λ x. new ≡ viewed old rank (f x))

-- a moment of words, cards and views, after these events and acts
abbrev pub flat_moment : {C V : Type 0} → Flat C V → List Event → List Deed → Moment V
flat_moment flat trace acts = record { held = flat.words; views = flat.views.items; trace = trace; acts = acts }

-- a shard is good, after its events and some acts; and so are words, cards and views, after some events and acts
pub record IsGood {C V : Type 0} (says : C → CoreSays V) (s : ShardState C V) : Type 0 where
  pub acts : List Deed
  pub is_good : (says s.core).good (moment_of (running_shard says s) acts)

pub record IsGoodFlat {C V : Type 0} (says : C → CoreSays V) (core : C) (flat : Flat C V) : Type 0 where
  pub trace : List Event
  pub acts : List Deed
  pub is_good : (says core).good (flat_moment flat trace acts)

-- after whichever events and acts it was good, it is good as it is now
abbrev pub StaysGood : {C V : Type 0} → CoreSays V → Flat C V → Flat C V → Type 0
StaysGood S old new = (trace : List Event) (acts : List Deed) → S.good (flat_moment old trace acts) → S.good (flat_moment new trace acts)
