-- The spin lock as plain functions, and which of its states are good.
use Rattle.std.specs.Prelude.{◌≡◌, ℕ, ◌+◌, ◌==◌, false, List, [], ◌∷◌, length, if◌then◌else◌, slice_get, slice_index, Option, Some, None}
use Rattle.rl_word.specs.declared.classes.Class.TheVariants as class
use Rattle.rl_word.specs.declared.acts.Act.{Act}
use Rattle.rl_word.specs.declared.acts.Act.TheVariants.{CardCas, CardSwap}
use Rattle.rl_step.specs.declared.events.Event.{Event}
use Rattle.rl_step.specs.declared.events.Event.TheVariants.{EnterW}
use Rattle.rl_step.specs.declared.events.Standing.{Standing}
use Rattle.rl_step.specs.declared.events.Standing.TheVariants as standing
use Rattle.rl_step.specs.Lock.{LockTable, LockState, Told, no_local}
use Rattle.rl_spin.specs.declared.view.SpinView.{SpinView}
use Rattle.rl_spin.specs.declared.view.SpinPhase.{SpinPhase}
use Rattle.rl_spin.specs.declared.view.SpinPhase.TheVariants.{Out, Trying, Inside, Releasing}

-- the view of rank r in phase p
abbrev pub spin_at_phase : ℕ → SpinPhase → SpinView
spin_at_phase r p = record { rank = r; phase = p }

-- what is learnt where nothing ever waits
abbrev pub told_as : SpinView → List Event → Told SpinView
told_as v es = record { view = v; events = es; waits = false }

-- A rank that tries compares the word with 0 and puts in its number and 1; one that releases puts in 0. Both go through the
-- card of the word's home.
abbrev pub spin_plan : ℕ → SpinPhase → Option Act
spin_plan r Out = None
spin_plan r Trying = Some (CardCas 0 0 (r + 1))
spin_plan r Inside = None
spin_plan r Releasing = Some (CardSwap 0 0)

-- A rank that found 0 is inside, and enters with that act; one that found another value tries again.
abbrev pub spin_learn : ℕ → SpinPhase → ℕ → Told SpinView
spin_learn r Out got = told_as (spin_at_phase r Out) []
spin_learn r Trying got =
    if got == 0 then told_as (spin_at_phase r Inside) (EnterW r ∷ []) else told_as (spin_at_phase r Trying) []
spin_learn r Inside got = told_as (spin_at_phase r Inside) []
spin_learn r Releasing got = told_as (spin_at_phase r Out) []

abbrev pub spin_standing : SpinPhase → Standing
spin_standing Out = standing.Out
spin_standing Trying = standing.Asking
spin_standing Inside = standing.Writer
spin_standing Releasing = standing.Leaving

-- the spin lock of a shard with this home: one card word there, no queue, no cohort, no readers that share, and no local
-- compare-and-swap
abbrev pub spin_table : ℕ → LockTable SpinView
spin_table home =
    record {
      size = 1;
      spot = λ w. record { class = class.Card; home = home };
      first = λ r. spin_at_phase r Out;
      ask = λ v m. spin_at_phase v.rank Trying;
      plan = λ v. spin_plan v.rank v.phase;
      learn = λ v got. spin_learn v.rank v.phase got;
      leave = λ v. spin_at_phase v.rank Releasing;
      standing = λ v. spin_standing v.phase;
      queues = [];
      cohort = λ c. false;
      shares = false;
      may_make = no_local;
    }

-- a rank in this phase has its number in the word
abbrev pub Owns : SpinPhase → Type 0
Owns Out = ⊥
Owns Trying = ⊥
Owns Inside = Unit {0}
Owns Releasing = Unit {0}

-- A state is good where the word tells who has the lock: the rank inside, or releasing, has its number there, and a number
-- there is that of such a rank.
pub record SpinGood (ranks : ℕ) (s : LockState SpinView) : Type 0 where
  pub one_word : length s.words ≡ 1
  pub all_views : length s.views ≡ ranks
  pub all_modes : length s.modes ≡ ranks
  pub named : (r : ℕ) (v : SpinView) → slice_get s.views r ≡ Some v → v.rank ≡ r
  pub owner : (r : ℕ) (v : SpinView) → slice_get s.views r ≡ Some v → Owns v.phase → slice_index s.words 0 ≡ r + 1
  pub held : (r : ℕ) → slice_index s.words 0 ≡ r + 1 → (v : SpinView) × (slice_get s.views r ≡ Some v) × Owns v.phase
