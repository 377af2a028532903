-- What is said of each core of a machine.
use Rattle.std.specs.Prelude.{◌≡◌, ℕ, List, slice_get, Some}
use Rattle.rl_word.specs.Acts.{Layout}
use Rattle.rl_word.specs.Shapes.{TheShape}
use Rattle.rl_word.specs.declared.shapes.Knobs.{Knobs}
use Rattle.rl_step.specs.declared.events.Event.{Event}
use Rattle.rl_step.specs.Transitions.{Transition}
use Rattle.rl_step.specs.Batches.{HandsOn}
use Rattle.rl_core.specs.Moments.{CoreSays}

-- each core, with the home of its shard
abbrev pub EachCore : {C : Type 0} → (ℕ → C → Type 0) → List ℕ → List C → Type 0
EachCore P homes cores = (s home : ℕ) (core : _) → slice_get homes s ≡ Some home → slice_get cores s ≡ Some core → P home core

-- by each core the ranks sit so
abbrev pub EachSits : {C V : Type 0} → (C → CoreSays V) → Layout → List ℕ → List C → Type 0
EachSits says layout homes cores = EachCore (λ home core. (says core).layout ≡ layout) homes cores

-- what the lock of each core says further hands on what its kind of lock promises
abbrev pub EachHandsOn : {C V : Type 0} → (C → CoreSays V) → (TheShape → ℕ → Knobs → List Event → List Transition → Type 0) → TheShape → Knobs → List ℕ → List C → Type 0
EachHandsOn says promised shape knobs homes cores = EachCore (λ home core. HandsOn (says core).further (promised shape home knobs)) homes cores
