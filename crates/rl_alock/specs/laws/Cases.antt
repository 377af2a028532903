-- What a definition says by a test, as a function of what the test gives: the laws go by its two cases.
use Rattle.std.specs.Prelude.{Bool, if◌then◌else◌}
use Rattle.rl_alock.specs.declared.cohort.Cohort.{Cohort}
use Rattle.rl_alock.specs.declared.cohort.Cohort.TheVariants.{Local, Remote}

-- the cohort of a rank, on the shard's home or not
abbrev pub cohort_by : Bool → Cohort
cohort_by home = if home then Local else Remote
