-- Where a walk stands on a chain, with what was read.
use Rattle.std.specs.Prelude.{◌≡◌, ℕ, ◌-◌, ◌<◌, ◌≤◌, List, ◌++◌, length}
use Rattle.rl_model.specs.declared.call.Call.{Call}
use Rattle.rl_model.specs.declared.geom.Geom.{Geom}
use Rattle.rl_model.specs.Geom.{GeomFits, bucket_of}
use Rattle.rl_volume.specs.Walk.{bucket_walk, chain_walk}
use Rattle.rl_volume.specs.Seen.{AreApart, ArePlaced, next_in}
use Rattle.rl_volume.specs.Words.{volume_words}

-- from a link behind so many cells the walk for a key comes to the same next word as from its bucket, whatever is read further
abbrev pub GoesOn : Geom → ℕ → ℕ → ℕ → List (ℕ × ℕ) → Type 0
GoesOn geom key link passed pairs =
    (call : Call) (more : List (ℕ × ℕ)) → next_in (bucket_walk geom call key (bucket_of geom key)) (pairs ++ more) ≡ next_in (chain_walk geom call key link (geom.overflow - passed)) (pairs ++ more)

-- the words that were read are those of a volume, with memory for all of it, the place of each is noted, and the walk stands where it is noted
abbrev pub AreNoted : Geom → List (ℕ × ℕ) → ℕ → List ℕ → ℕ → ℕ → ℕ → Type 0
AreNoted geom pairs capacity places key link passed =
    AreApart pairs (volume_words geom)
    × (volume_words geom ≤ capacity)
    × GeomFits geom
    × (passed ≤ geom.overflow)
    × (0 < passed → GoesOn geom key link passed pairs)
    × (length places ≡ volume_words geom)
    × ArePlaced pairs places
