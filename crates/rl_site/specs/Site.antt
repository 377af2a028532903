-- One shard's place: the size of the table, the shard's number, and how many updates each rank may make; where the parts of its
-- window lie before the lock's words; and the volume and the journal that these words are.
use Rattle.std.specs.Prelude.{ℕ, ◌+◌, ◌*◌, List, take, drop, sum, slice_index}
use Rattle.rl_model.specs.declared.entry.Entry.{Entry}
use Rattle.rl_model.specs.declared.geom.Geom.{Geom}
use Rattle.rl_volume.specs.Words.{volume_words}
use Rattle.rl_journal.specs.Journal.{journal_in}
use Rattle.rl_site.specs.declared.site.Site.{Site as GivenSite}

pub record Site : Type 0 where
  pub geom : Geom
  pub shard : ℕ
  pub rooms : List ℕ

-- a shard's place under a way of working that has words of its own: the number of the first of them, which stand behind the lock's
pub record WaySite : Type 0 where
  pub site : Site
  pub behind : ℕ

-- the place that is given for a shard
abbrev pub site_of : GivenSite → Site
site_of s = record { geom = s.geom; shard = s.shard; rooms = s.rooms.items }

-- the journal has a place for each update that a rank may make
abbrev pub places : Site → ℕ
places site = sum site.rooms

-- word 0 is always 1; then the count, the volume and the journal
abbrev pub count_word : ℕ
count_word = 1

abbrev pub volume_base : ℕ
volume_base = 2

abbrev pub journal_base : Geom → ℕ
journal_base geom = 2 + volume_words geom

-- the lock's words stand behind the journal
abbrev pub lock_base : Site → ℕ
lock_base site = journal_base site.geom + 6 * places site

-- the volume among the words of a window
abbrev pub volume_of : Geom → List ℕ → List ℕ
volume_of geom words = take (volume_words geom) (drop 2 words)

-- the journal of a site, as the words before the lock's say: the entries of the places below the count
abbrev pub journal_of : Site → List ℕ → List Entry
journal_of site words = journal_in site.shard words (journal_base site.geom) (slice_index words count_word)

abbrev pub journal_by : Site → List ℕ → List Entry
journal_by site words = journal_of site (take (lock_base site) words)
