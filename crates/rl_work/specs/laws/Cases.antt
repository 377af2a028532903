-- What a definition says by a test, as a function of what the test gives: the laws go by its two cases.
use Rattle.std.specs.Prelude.{ℕ, Bool, false, if◌then◌else◌}
use Rattle.rl_word.specs.declared.classes.Mode.{Mode}
use Rattle.rl_word.specs.declared.classes.Mode.TheVariants as mode
use Rattle.rl_work.specs.declared.follow.Follow.{Follow}
use Rattle.rl_work.specs.declared.follow.Follow.TheVariants.{On, Over}
use Rattle.rl_work.specs.declared.stage.Stage.TheVariants.{Journal}
use Rattle.rl_work.specs.Work.{TheWork, WorkTurned, with_entries, at_rest}

-- the mode of a block, a get or not
abbrev pub mode_by : Bool → Mode
mode_by read = if read then mode.Read else mode.Write

-- what follows a block, over or not
abbrev pub follow_by : Bool → Follow
follow_by over = if over then Over else On

-- the end of a block, of updates or not
abbrev pub block_close_by : ℕ → ℕ → TheWork → ℕ → Bool → WorkTurned
block_close_by shard rank x count update =
    if update then record { work = with_entries shard rank x count (Journal 0); over = false } else at_rest (with_entries shard rank x count x.stage)
