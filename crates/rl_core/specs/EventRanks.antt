-- The ranks that events name.
use Rattle.std.specs.Prelude.{ℕ, ◌<◌, List}
use Rattle.std.specs.List.{AllByRecursion}
use Rattle.rl_step.specs.declared.events.Event.{Event}
use Rattle.rl_step.specs.declared.events.Event.TheVariants.{Touch, EnterW, EnterR, LeaveW, LeaveR}

-- who enters, leaves or touches is one of so many ranks
abbrev pub IsByRank : ℕ → Event → Type 0
IsByRank ranks (Touch k w) = k < ranks
IsByRank ranks (EnterW k) = k < ranks
IsByRank ranks (EnterR k) = k < ranks
IsByRank ranks (LeaveW k) = k < ranks
IsByRank ranks (LeaveR k) = k < ranks
IsByRank ranks e = Unit {0}

abbrev pub AreByRanks : ℕ → List Event → Type 0
AreByRanks ranks t = AllByRecursion (IsByRank ranks) t
