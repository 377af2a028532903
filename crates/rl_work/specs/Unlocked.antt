-- What a block reads next while its rank doesn't hold the lock: for the ways of working that read without it.
use Rattle.std.specs.Prelude.{ℕ, List, [], ◌∷◌, ◌++◌, Option, None}
use Rattle.rl_model.specs.declared.call.Call.{Call}
use Rattle.rl_model.specs.declared.geom.Geom.{Geom}
use Rattle.rl_volume.specs.Seen.{next_word}
use Rattle.rl_work.specs.Work.{TheWork, with_seen}

-- the word that the first of these calls reads next
abbrev pub wanted_by : Geom → List Call → List (ℕ × ℕ) → Option ℕ
wanted_by geom [] pairs = None
wanted_by geom (c ∷ cs) pairs = next_word geom c pairs

abbrev pub wanted : Geom → TheWork → Option ℕ
wanted geom x = wanted_by geom x.calls x.seen.pairs

-- a word more was seen
abbrev pub with_word : TheWork → ℕ → ℕ → TheWork
with_word x word got = with_seen x (x.seen.pairs ++ (word, got) ∷ [])
