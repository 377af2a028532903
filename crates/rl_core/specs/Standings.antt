-- How the ranks of a shard stand, and what their answers tell.
use Rattle.std.specs.Prelude.{◌≡◌, ℕ, ◌+◌, ◌==◌, List, [], ◌∷◌, slice_get, Some}
use Rattle.rl_step.specs.declared.events.Event.{Event}
use Rattle.rl_step.specs.declared.events.Event.TheVariants.{LeaveW}
use Rattle.rl_step.specs.declared.events.Standing.{Standing}
use Rattle.rl_step.specs.declared.events.Standing.TheVariants.{Writer, Reader}
use Rattle.rl_step.specs.declared.events.Stepped.{Stepped}
use Rattle.rl_step.specs.declared.events.Stepped.TheVariants.{Moved, Waiting, Lost, Busy, Finished}
use Rattle.rl_step.specs.Queues.{count}

-- at most one stands as writer, and none as reader beside it
pub record AloneIn (sts : List Standing) : Type 0 where
  pub one : (i j : ℕ) → slice_get sts i ≡ Some Writer → slice_get sts j ≡ Some Writer → i ≡ j
  pub none : (i j : ℕ) → slice_get sts i ≡ Some Writer → slice_get sts j ≡ Some Reader → ⊥

-- how often a rank has left as a writer
abbrev pub leaves : ℕ → List Event → ℕ
leaves k [] = 0
leaves k (LeaveW j ∷ t) = count (j == k) + leaves k t
leaves k (e ∷ t) = leaves k t

-- the answer of a rank that nobody is in the way of
abbrev pub IsUnhindered : Stepped → Type 0
IsUnhindered Moved = Unit {0}
IsUnhindered (Waiting word value) = ⊥
IsUnhindered (Lost guess seen) = ⊥
IsUnhindered (Busy node holder) = ⊥
IsUnhindered Finished = Unit {0}
