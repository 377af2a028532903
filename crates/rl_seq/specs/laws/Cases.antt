-- What a definition says by a test, as a function of what the test gives: the laws go by its two cases.
use Rattle.std.specs.Prelude.{ℕ, Bool, if◌then◌else◌, Option, Some, None}
use Rattle.rl_word.specs.declared.classes.Mode.{Mode}
use Rattle.rl_word.specs.declared.classes.Mode.TheVariants as mode
use Rattle.rl_site.specs.Site.{WaySite}
use Rattle.rl_work.specs.Ways.{Worked}
use Rattle.rl_work.specs.Work.{TheWork, seen_on}
use Rattle.rl_seq.specs.declared.stage.SeqStage.{SeqStage}
use Rattle.rl_seq.specs.declared.stage.SeqStage.TheVariants as stage
use Rattle.rl_seq.specs.Site.{seq_version_word}
use Rattle.rl_seq.specs.SeqWork.{TheSeqWork, goes_to, is_over, waits, lost}

-- the first stage of a block, a get or not, and the mode in which it asks for the lock
abbrev pub stage_of : Bool → SeqStage
stage_of read = if read then stage.Look else stage.Locked

abbrev pub asks_by : Bool → Option Mode
asks_by read = if read then None else Some mode.Write

-- after a store between the versions, of the count or not
abbrev pub stored_by : ℕ → TheWork → Bool → Worked TheSeqWork
stored_by version w over = if over then goes_to w (stage.Close version) else goes_to w (stage.Write version)

-- a get that found this version, even or not
abbrev pub looked_by : WaySite → TheWork → ℕ → Bool → Worked TheSeqWork
looked_by at w got even = if even then goes_to w (stage.Count got) else waits w (seq_version_word at) got

-- and found it again, the same or not
abbrev pub checked_by : WaySite → ℕ → TheWork → ℕ → ℕ → ℕ → Bool → Worked TheSeqWork
checked_by at rank w version count got same = if same then is_over (seen_on at.site.geom at.site.shard rank w count).work else lost w version got
