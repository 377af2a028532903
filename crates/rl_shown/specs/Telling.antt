-- What is told of a replay: its steps in a window, or the state before one.
use Rattle.std.specs.Prelude.{ℕ, List}
use Rattle.rl_place.specs.Places.{ThePlace}
use Rattle.rl_ops.specs.declared.ops.Ops.{Ops}
use Rattle.rl_ops.specs.declared.schedule.Schedule.{Schedule}
use Rattle.rl_locks.specs.Kinds.{LockKind}
use Rattle.rl_shown.specs.declared.telling.Telling.{Telling}
use Rattle.rl_shown.specs.declared.telling.Telling.TheVariants.{Steps, Before}
use Rattle.rl_shown.specs.Listing.{listing_with}
use Rattle.rl_shown.specs.State.{state_with}

-- by the kind of the placement's lock
abbrev pub told_by : LockKind → ThePlace → Ops → Schedule → Telling → List ℕ
told_by kind place ops schedule (Steps window) = listing_with kind.defined place ops schedule window
told_by kind place ops schedule (Before step) = state_with kind.defined place ops schedule step
