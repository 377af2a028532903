-- Why a step is answered as it is, by the causes that the cores give; and what Finished and Busy tell.
use Rattle.std.specs.Prelude.{◌≡◌, ℕ, ◌≤◌, false, length, List, slice_get, slice_index, Option, Some, None}
use Rattle.rl_word.specs.declared.acts.Atom.{Atom}
use Rattle.rl_step.specs.Do.{TheWindow}
use Rattle.rl_step.specs.declared.events.Stepped.{Stepped}
use Rattle.rl_step.specs.declared.events.Stepped.TheVariants.{Busy}
use Rattle.rl_core.specs.Answering.{AnswersNext}
use Rattle.rl_core.specs.Moments.{CoreSays}
use Rattle.rl_machine.specs.Running.{ShardRun, Running}
use Rattle.rl_machine.specs.Run.{calls_by, place_of, has_open_call, only_counted, block_opened}

module _ {C V : Type 0} (tells : C → TheWindow → V → Option Atom → Stepped → Type 0) where
  -- what is told of an answer on a shard over its core, for a rank that may not be there, and for a shard that may not be there
  abbrev pub tells_at : C → ShardRun V → Option V → Stepped → Type 0
  tells_at core S None answer = ⊥
  tells_at core S (Some x) answer = tells core S.held x (S.table.core.next x) answer

  abbrev pub tells_on : ℕ → Stepped → Option C → Option (ShardRun V) → Type 0
  tells_on k answer None S = ⊥
  tells_on k answer (Some core) None = ⊥
  tells_on k answer (Some core) (Some S) = tells_at core S (slice_get S.views k) answer

  -- it is so of rank k's next atom, where it stands, and this answer; of a machine over these cores
  abbrev pub AtomTells : List C → Running V → ℕ → Stepped → Type 0
  AtomTells cores m k answer = tells_on k answer (slice_get cores (place_of m k)) (slice_get m.shards (place_of m k))

-- the cause of the answer of rank k's step: once its next block is opened, if one is, its next atom has it
abbrev pub StepCause : {C V : Type 0} → (C → CoreSays V) → List C → Running V → ℕ → Stepped → Type 0
StepCause says cores m k answer = AtomTells (λ core. (says core).cause) cores (block_opened m k) k answer

-- what the answer of rank k's step says of its atom, and of the words and cards that it found where the rank stands: the same for every core
abbrev pub StepTells : {C V : Type 0} → List C → Running V → ℕ → Stepped → Type 0
StepTells cores m k answer = AtomTells (λ core h x next a. AnswersNext h next a) cores (block_opened m k) k answer

-- no call of rank k is open, and none of its calls is left
abbrev pub IsFinished : {V : Type 0} → Running V → ℕ → Type 0
IsFinished m k = (has_open_call m k ≡ false) × (length (calls_by m k) ≤ slice_index m.opened k)

-- a step of rank k that is answered Busy has opened its next block, if one is opened, and counted the answer, and nothing else
abbrev pub OnlyCountsBusy : {V : Type 0} → Running V → ℕ → Running V → Stepped → Type 0
OnlyCountsBusy m k after answer = (node holder : ℕ) → answer ≡ Busy node holder → after ≡ only_counted (block_opened m k) answer
