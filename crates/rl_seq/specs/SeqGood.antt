-- The rule of a window under a sequence lock: of the words before the lock's, of the version, and of each rank's standing and side.
use Rattle.std.specs.Prelude.{◌≡◌, ℕ, ◌+◌, ◌*◌, ◌%◌, ◌≤◌, Bool, true, false, List, [], ◌++◌, length, map, slice_get, slice_index, Option, Some, None, take, get_or, ◌<◌}
use Rattle.rl_model.specs.declared.call.Call.{Call}
use Rattle.rl_model.specs.declared.geom.Geom.{Geom}
use Rattle.rl_model.specs.declared.entry.Entry.{Entry}
use Rattle.rl_model.specs.Asked.{asks_update}
use Rattle.rl_journal.specs.Blocks.{calls_of}
use Rattle.rl_step.specs.declared.events.Standing.{Standing}
use Rattle.rl_step.specs.declared.events.Standing.TheVariants.{Out, Writer, Reader, Leaving}
use Rattle.rl_step.specs.Lock.{IsHolder}
use Rattle.rl_volume.specs.Seen.{AgreesWith}
use Rattle.rl_work.specs.declared.stage.Stage.TheVariants.{Rest, Journal}
use Rattle.rl_work.specs.Locked.{first_reads}
use Rattle.rl_site.specs.Site.{Site, count_word, volume_of, WaySite}
use Rattle.rl_work.specs.Work.{TheWork, at_stage as at_work_stage, has_work, stores}
use Rattle.rl_work.specs.Ways.{WorkSide as SideOf}
use Rattle.rl_work.specs.PlainWork.{Rises}
use Rattle.rl_work.specs.WorkGood.{WorkSide, WorkGood, HasOpen}
use Rattle.rl_work.specs.Unlocked.{wanted, wanted_by}
use Rattle.rl_seq.specs.declared.stage.SeqStage.{SeqStage}
use Rattle.rl_seq.specs.declared.stage.SeqStage.TheVariants as stage
use Rattle.rl_seq.specs.Site.{version_in, front}
use Rattle.rl_seq.specs.SeqWork.{TheSeqWork}

-- how a rank stands, and its side of the work
abbrev pub SeqRank : Type 0
SeqRank = SideOf TheSeqWork

-- What the work needs of the lock: a writer has nobody beside it who holds the lock.
pub record IsSeqApart (sides : List SeqRank) : Type 0 where
  pub excludes : (i j : ℕ) (x y : SeqRank) → slice_get sides i ≡ Some x → slice_get sides j ≡ Some y → x.standing ≡ Writer → IsHolder y.standing → i ≡ j
  pub no_readers : (r : ℕ) (x : SeqRank) → slice_get sides r ≡ Some x → x.standing ≡ Reader → ⊥

-- What a side is in the work inside the lock: a get alone has no block open there until it is done, and a writer that has stored
-- the count is about to leave.
abbrev pub locked_at : Standing → TheWork → SeqStage → WorkSide
locked_at st w stage.Locked = record { standing = st; work = w }
locked_at st w stage.Look = record { standing = st; work = at_work_stage w Rest }
locked_at st w (stage.Count version) = record { standing = st; work = at_work_stage w Rest }
locked_at st w (stage.Read version count word) = record { standing = st; work = at_work_stage w Rest }
locked_at st w (stage.Again version count) = record { standing = st; work = at_work_stage w Rest }
locked_at st w stage.Decided = record { standing = st; work = w }
locked_at st w (stage.Open version) = record { standing = st; work = w }
locked_at st w (stage.Write version) = record { standing = st; work = w }
locked_at st w (stage.Close version) = record { standing = Leaving; work = w }

abbrev pub as_locked : SeqRank → WorkSide
as_locked x = locked_at x.standing x.work.work x.work.stage

-- the rank is a writer between its two stores to the version
abbrev pub is_between : SeqStage → Bool
is_between (stage.Write version) = true
is_between (stage.Close version) = true
is_between st = false

-- a get alone is open
pub record IsGetting (site : Site) (rank : ℕ) (st : Standing) (w : TheWork) : Type 0 where
  pub open_call : HasOpen site rank w
  pub get : first_reads w.calls ≡ true
  pub out : st ≡ Out
  pub no_reply : w.replies ≡ []

-- it found this version, and the version is `now`: it is no lower, and still the same where nobody else is there
pub record HasVersion (site : Site) (version now : ℕ) : Type 0 where
  pub even : version % 2 ≡ 0
  pub past : version ≤ now
  pub alone : length site.rooms ≡ 1 → now ≡ version

-- while the version is the one found, the count is the one found, and so is each word that was seen
pub record StillHas (site : Site) (words : List ℕ) (version now count : ℕ) (pairs : List (ℕ × ℕ)) : Type 0 where
  pub same_count : now ≡ version → slice_index words count_word ≡ count
  pub same_words : now ≡ version → AgreesWith pairs (volume_of site.geom words)

-- each word that was seen was the one wanted next when it was loaded
abbrev pub AreWanted : Geom → List Call → List (ℕ × ℕ) → Type 0
AreWanted geom calls pairs = (i : ℕ) → i < length pairs → wanted_by geom calls (take i pairs) ≡ Some (get_or pairs i (0, 0)).0

-- a get that has read some words
pub record IsReadingOut (site : Site) (words : List ℕ) (now rank : ℕ) (st : Standing) (w : TheWork) (version count : ℕ) (next : Option ℕ) : Type 0 where
  pub getting : IsGetting site rank st w
  pub has : HasVersion site version now
  pub still : StillHas site words version now count w.seen.pairs
  pub wants : wanted site.geom w ≡ next
  pub named : AreWanted site.geom w.calls w.seen.pairs

-- the version is even, and at most twice the count of updates
pub record IsEven (now count : ℕ) : Type 0 where
  pub even : now % 2 ≡ 0
  pub few : now ≤ 2 * count

-- a writer whose version was this, and is one more
pub record IsOdd (version now : ℕ) : Type 0 where
  pub even : version % 2 ≡ 0
  pub one_more : now ≡ version + 1

-- a writer whose block's entries have joined the transcript, behind those of its earlier blocks
pub record HasJoined (w : TheWork) : Type 0 where
  pub earlier : List Entry
  pub items : w.transcript.items ≡ earlier ++ w.entries
  pub calls_are : calls_of w.entries ≡ w.calls
  pub parts : Rises 0 w.entries
  pub update : asks_update w.calls ≡ true

-- What holds of a rank, by how it stands and where it is between the versions. `words` are those before the lock's, and `now` is
-- the version.
abbrev pub SeqFitsAt : Site → List ℕ → ℕ → ℕ → Standing → TheWork → SeqStage → Type 0
SeqFitsAt site words now rank st w stage.Locked = (stores w.stage ≡ false) × (has_work w.stage ≡ true → first_reads w.calls ≡ false)
SeqFitsAt site words now rank st w stage.Look = IsGetting site rank st w × (w.seen.pairs ≡ [])
SeqFitsAt site words now rank st w (stage.Count version) = IsGetting site rank st w × HasVersion site version now × (w.seen.pairs ≡ [])
SeqFitsAt site words now rank st w (stage.Read version count word) = IsReadingOut site words now rank st w version count (Some word)
SeqFitsAt site words now rank st w (stage.Again version count) = IsReadingOut site words now rank st w version count None
SeqFitsAt site words now rank st w stage.Decided = w.stage ≡ Journal 0
SeqFitsAt site words now rank st w (stage.Open version) = (w.stage ≡ Journal 0) × (now ≡ version) × IsEven version (slice_index words count_word)
SeqFitsAt site words now rank st w (stage.Write version) = (stores w.stage ≡ true) × IsOdd version now × (version ≤ 2 * slice_index words count_word)
SeqFitsAt site words now rank st w (stage.Close version) =
    (w.stage ≡ Rest) × (st ≡ Writer) × IsOdd version now × (version + 2 ≤ 2 * slice_index words count_word) × HasJoined w

abbrev pub SeqFits : Site → List ℕ → ℕ → ℕ → SeqRank → Type 0
SeqFits site words now rank x = SeqFitsAt site words now rank x.standing x.work.work x.work.stage

-- nobody is between its two stores to the version
abbrev pub IsQuiet : List SeqRank → Type 0
IsQuiet sides = (r : ℕ) (x : SeqRank) → slice_get sides r ≡ Some x → is_between x.work.stage ≡ false

-- The rule: that of the work inside the lock, of what each side is there; and that of the version.
pub record SeqGood (at : WaySite) (words : List ℕ) (sides : List SeqRank) : Type 0 where
  pub locked : WorkGood at.site (front at words) (map as_locked sides)
  pub quiet : IsQuiet sides → IsEven (version_in at words) (slice_index (front at words) count_word)
  pub fits : (r : ℕ) (x : SeqRank) → slice_get sides r ≡ Some x → SeqFits at.site (front at words) (version_in at words) r x
