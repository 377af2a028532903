-- What the parts of a replay must be, one beside the other: a proper placement, calls that fit it and that its lock can do, and a schedule of its
-- ranks; with the words of the lock that these speak of.
use Rattle.std.specs.Prelude.{length}
use Rattle.rl_place.specs.Places.{ThePlace}
use Rattle.rl_ops.specs.declared.ops.Ops.{Ops}
use Rattle.rl_ops.specs.declared.schedule.Schedule.{Schedule}
pub use Rattle.rl_step.specs.LockQueues.{lock_under, does_batches}
pub use Rattle.rl_place.specs.LockWords.{name_of}
pub use Rattle.rl_place.specs.Places.{IsProper}
pub use Rattle.rl_place.specs.Shapes.{shape_of, knobs_of}
pub use Rattle.rl_ops.specs.Ops.{OpsFit}
pub use Rattle.rl_ops.specs.Schedule.{ScheduleFits}
pub use Rattle.rl_inputs.specs.Reading.{SuitsLock}

-- calls and a schedule are of the placement's ranks, and the calls suit its lock
abbrev pub ReplayFits : ThePlace → Ops → Schedule → Type 0
ReplayFits place ops schedule = OpsFit (length place.paths) place.geom.shards ops × SuitsLock place ops × ScheduleFits (length place.paths) schedule
