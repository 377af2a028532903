-- What a definition says by a test, as a function of what the test gives: the laws go by its two cases.
use Rattle.std.specs.Prelude.{ℕ, Bool, if◌then◌else◌, List, [], filter}
use Rattle.rl_model.specs.declared.entry.Entry.{Entry}
use Rattle.rl_model.specs.Call.{is_update}
use Rattle.rl_site.specs.Site.{WaySite, journal_by}
use Rattle.rl_combine.specs.declared.stage.CombineStage.{CombineStage}
use Rattle.rl_combine.specs.declared.stage.CombineStage.TheVariants.{Journal, Answer}
use Rattle.rl_combine.specs.Posts.{post_of}
use Rattle.rl_combine.specs.Combine.{TheCombineSide, is_call, early_read}

-- where a call goes on that is decided, an update or not
abbrev pub decided_stage : ℕ → Bool → CombineStage
decided_stage owner update = if update then Journal owner 0 else Answer owner 0

-- the entry of a call that is done, of an update or not
abbrev pub early_by : WaySite → List ℕ → ℕ → TheCombineSide → Bool → List Entry
early_by S words rank x update = if update then filter (is_call rank x.seq) (journal_by S.site words) else early_read S (post_of S words rank) rank x

-- of a call that is open or not
abbrev pub early_open : WaySite → List ℕ → ℕ → TheCombineSide → Bool → List Entry
early_open S words rank x is_open = if is_open then early_by S words rank x (is_update x.call) else []
