-- What is promised of the version and of gets under a sequence lock, as statements.
use Rattle.std.specs.Prelude.{◌≡◌, ◌≢◌, ◌↔◌, ◌⊎◌, ℕ, ◌+◌, ◌*◌, ◌%◌, ◌<◌, ◌≤◌, Bool, true, false, List, length, slice_get, slice_index, Option, Some, None}
use Rattle.rl_word.specs.declared.acts.Atom.{Atom}
use Rattle.rl_word.specs.declared.acts.Atom.TheVariants as atom
use Rattle.rl_step.specs.declared.events.Standing.TheVariants.{Writer}
use Rattle.rl_step.specs.declared.events.Stepped.TheVariants.{Waiting, Lost}
use Rattle.rl_step.specs.Do.{do_words}
use Rattle.rl_volume.specs.Seen.{AgreesWith}
use Rattle.rl_site.specs.Site.{count_word, lock_base, volume_of, WaySite}
use Rattle.rl_work.specs.Ways.{WorkLaws, Works}
use Rattle.rl_seq.specs.declared.stage.SeqStage.{SeqStage}
use Rattle.rl_seq.specs.declared.stage.SeqStage.TheVariants as stage
use Rattle.rl_seq.specs.Site.{seq_version_word, version_in, front}
use Rattle.rl_seq.specs.SeqGood.{SeqRank, SeqGood, IsQuiet, is_between}
use Rattle.rl_seq.specs.SeqWork.{TheSeqWork, seq_atom, seq_after, seq_table}

-- a get alone is open
abbrev pub is_getting : SeqStage → Bool
is_getting stage.Look = true
is_getting (stage.Count version) = true
is_getting (stage.Read version count word) = true
is_getting (stage.Again version count) = true
is_getting st = false

-- the version that it has found, and the count
abbrev pub found_version : SeqStage → Option ℕ
found_version (stage.Count version) = Some version
found_version (stage.Read version count word) = Some version
found_version (stage.Again version count) = Some version
found_version st = None

abbrev pub found_count : SeqStage → Option ℕ
found_count (stage.Read version count word) = Some count
found_count (stage.Again version count) = Some count
found_count st = None

-- it is a way of working
abbrev pub IsWay : Type 0
IsWay = (at : WaySite) (home : ℕ) → WorkLaws (seq_table at home) (SeqGood at)

-- the version is odd exactly while a rank is between its two stores to it
abbrev pub IsOddBetween : Type 0
IsOddBetween = (at : WaySite) (words : List ℕ) (sides : List SeqRank) → SeqGood at words sides → (version_in at words % 2 ≡ 0) ↔ IsQuiet sides

-- and that rank is a writer
abbrev pub WritersBetween : Type 0
WritersBetween =
    (at : WaySite) (words : List ℕ) (sides : List SeqRank) → SeqGood at words sides → (r : ℕ)
    (x : SeqRank) → slice_get sides r ≡ Some x → is_between x.work.stage ≡ true → x.standing ≡ Writer

-- a get has found an even version, and the version is no lower
abbrev pub FindsEven : Type 0
FindsEven =
    (at : WaySite) (words : List ℕ) (sides : List SeqRank) → SeqGood at words sides → (r : ℕ) (x : SeqRank) → slice_get sides r ≡ Some x
    → (version : ℕ) → found_version x.work.stage ≡ Some version → (version % 2 ≡ 0) × (version ≤ version_in at words)

-- while it is still the one found nobody writes, the count is the one found, and so is each word that was loaded since
abbrev pub StandsStill : Type 0
StandsStill =
    (at : WaySite) (words : List ℕ) (sides : List SeqRank) → SeqGood at words sides → (r : ℕ)
    (x : SeqRank) → slice_get sides r ≡ Some x → found_version x.work.stage ≡ Some (version_in at words)
    → IsQuiet sides × AgreesWith x.work.work.seen.pairs (volume_of at.site.geom (front at words))
    × ((count : ℕ) → found_count x.work.stage ≡ Some count → slice_index (front at words) count_word ≡ count)

-- no atom of the work lowers the version
abbrev pub NeverLowers : Type 0
NeverLowers =
    (at : WaySite) (home : ℕ) (words : List ℕ) (sides : List SeqRank) (r : ℕ) (x : SeqRank) (a : Atom) → Works (seq_table at home)
    (SeqGood at) words sides r x a
    → version_in at words ≤ version_in at (do_words a words)

-- the next atom of a get is a load, of the version or of a word before the lock's
abbrev pub GetsLoad : Type 0
GetsLoad =
    (at : WaySite) (words : List ℕ) (sides : List SeqRank) → SeqGood at words sides → (r : ℕ)
    (x : SeqRank) → slice_get sides r ≡ Some x → is_getting x.work.stage ≡ true
    → (w : ℕ) × (seq_atom at x.work ≡ Some (atom.Load w)) × ((w ≡ seq_version_word at) ⊎ (w < lock_base at.site))

-- and in each try it loads no more words of the volume than a bucket's chain has
abbrev pub ReadsFew : Type 0
ReadsFew =
    (at : WaySite) (words : List ℕ) (sides : List SeqRank) → SeqGood at words sides → (r : ℕ)
    (x : SeqRank) → slice_get sides r ≡ Some x → is_getting x.work.stage ≡ true
    → length x.work.work.seen.pairs ≤ 3 + 2 * at.site.geom.overflow

-- a block waits exactly where it is a get that found an odd version
abbrev pub WaitsWhereOdd : Type 0
WaitsWhereOdd =
    (at : WaySite) (r : ℕ) (x : TheSeqWork) (got word value : ℕ)
    → ((seq_after at r x got).stepped ≡ Waiting word value) ↔ ((x.stage ≡ stage.Look) × (got % 2 ≢ 0) × (word ≡ seq_version_word at) × (value ≡ got))

-- and has lost exactly where it is a get that found another version than the first
abbrev pub LosesWhereOther : Type 0
LosesWhereOther =
    (at : WaySite) (r : ℕ) (x : TheSeqWork) (got guess seen : ℕ)
    → ((seq_after at r x got).stepped ≡ Lost guess seen) ↔ ((count : ℕ) × (x.stage ≡ stage.Again guess count) × (seen ≡ got) × (got ≢ guess))
