-- One shard's place under a sequence lock: that of the work inside the lock, and the version behind the lock's words.
use Rattle.std.specs.Prelude.{ℕ, List, take, slice_index}
use Rattle.rl_model.specs.declared.geom.Geom.{Geom}
use Rattle.rl_site.specs.Site.{WaySite, lock_base}

-- the version is the one word there
abbrev pub seq_version_word : WaySite → ℕ
seq_version_word at = at.behind

abbrev pub version_in : WaySite → List ℕ → ℕ
version_in at words = slice_index words (seq_version_word at)

-- the words before the lock's
abbrev pub front : WaySite → List ℕ → List ℕ
front at words = take (lock_base at.site) words

-- of these parts
abbrev pub place_of : Geom → ℕ → List ℕ → ℕ → WaySite
place_of geom shard rooms behind = record { site = record { geom = geom; shard = shard; rooms = rooms }; behind = behind }
