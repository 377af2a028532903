-- The holders that a trace tells of are the ranks that stand so.
use Rattle.std.specs.Prelude.{◌≡◌, ℕ, Bool, true, List, slice_get, Some}
use Rattle.rl_step.specs.declared.events.Standing.{Standing}
use Rattle.rl_step.specs.declared.events.Standing.TheVariants.{Writer, Reader}

-- the trace's writers and readers are the ranks that stand so
pub record Match (ws rs : ℕ → Bool) (sts : List Standing) : Type 0 where
  pub writes : (k : ℕ) → ws k ≡ true → slice_get sts k ≡ Some Writer
  pub writer : (k : ℕ) → slice_get sts k ≡ Some Writer → ws k ≡ true
  pub reads : (k : ℕ) → rs k ≡ true → slice_get sts k ≡ Some Reader
  pub reader : (k : ℕ) → slice_get sts k ≡ Some Reader → rs k ≡ true
