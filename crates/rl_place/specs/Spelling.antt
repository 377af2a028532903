-- The one spelling of a placement, line by line. It knows nothing of reading.
use Rattle.std.specs.Prelude.{ℕ, ◌+◌, List, [], ◌∷◌, ◌++◌, codes, decimal, map, get_or}
use Rattle.rl_text.specs.Spelling.{text_of}
use Rattle.rl_model.specs.declared.geom.Geom.{Geom}
use Rattle.rl_place.specs.declared.path.Path.{Path}
use Rattle.rl_place.specs.declared.lock.Lock.{Lock}
use Rattle.rl_place.specs.declared.lock.Lock.TheVariants.{Spin, Dmcs, Alock, Mcs, Rw, Seq, Combine}
use Rattle.rl_place.specs.Paths.{path_word, root_path}
use Rattle.rl_place.specs.LockWords.{lock_word, name_of}
use Rattle.rl_place.specs.Numbering.{node_paths}
use Rattle.rl_place.specs.Places.{ThePlace}

-- NAME NUMBER
abbrev pub setting_words : List ℕ → ℕ → List (List ℕ)
setting_words name n = name ∷ decimal n ∷ []

-- budget B1 .. BN
abbrev pub budget_words : List ℕ → List (List ℕ)
budget_words budgets = codes "budget" ∷ map decimal budgets

-- `writers TW`, `readers TR`, `group G`
abbrev pub counter_lines : ℕ → ℕ → ℕ → List (List (List ℕ))
counter_lines writers readers group = setting_words (codes "writers") writers ∷ setting_words (codes "readers") readers ∷ setting_words (codes "group") group ∷ []

-- the lines of the lock's settings
abbrev pub settings_lines : Lock → List (List (List ℕ))
settings_lines Spin = []
settings_lines Dmcs = []
settings_lines (Alock local remote) = budget_words (local ∷ remote ∷ []) ∷ []
settings_lines (Seq local remote) = budget_words (local ∷ remote ∷ []) ∷ []
settings_lines (Combine local remote) = budget_words (local ∷ remote ∷ []) ∷ []
settings_lines (Mcs budgets) = budget_words budgets ∷ []
settings_lines (Rw budgets writers readers group) =
    budget_words budgets ∷ counter_lines writers readers group

-- lock NAME, and the lines of the lock's settings
abbrev pub lock_lines : Lock → List (List (List ℕ))
lock_lines lock = (codes "lock" ∷ lock_word (name_of lock) ∷ []) ∷ settings_lines lock

-- shards S, buckets B, overflow O
abbrev pub geom_lines : Geom → List (List (List ℕ))
geom_lines geom =
    setting_words (codes "shards") geom.shards
    ∷ setting_words (codes "buckets") geom.buckets
    ∷ setting_words (codes "overflow") geom.overflow
    ∷ []

-- rank K at PATH
abbrev pub rank_words : ℕ → Path → List (List ℕ)
rank_words rank path = codes "rank" ∷ decimal rank ∷ codes "at" ∷ path_word path ∷ []

-- the lines of the ranks from one on
abbrev pub rank_lines : ℕ → List Path → List (List (List ℕ))
rank_lines rank [] = []
rank_lines rank (path ∷ paths) = rank_words rank path ∷ rank_lines (rank + 1) paths

-- home I PATH
abbrev pub home_words : ℕ → Path → List (List ℕ)
home_words shard path = codes "home" ∷ decimal shard ∷ path_word path ∷ []

-- the lines of the shards from one on; a node is spelled by its path
abbrev pub home_lines : List Path → ℕ → List ℕ → List (List (List ℕ))
home_lines nodes shard [] = []
home_lines nodes shard (home ∷ homes) = home_words shard (get_or nodes home root_path) ∷ home_lines nodes (shard + 1) homes

-- the lines of a placement
abbrev pub place_lines : ThePlace → List (List (List ℕ))
place_lines place =
    (codes "rmalock-place" ∷ codes "1" ∷ [])
    ∷ setting_words (codes "levels") place.levels
    ∷ (lock_lines place.lock
    ++ (geom_lines place.geom
    ++ (rank_lines 0 place.paths
    ++ (home_lines (node_paths place.paths) 0 place.homes
    ++ (codes "end" ∷ []) ∷ []))))

-- the text of a placement
abbrev pub place_spelling : ThePlace → List ℕ
place_spelling place = text_of (place_lines place)
