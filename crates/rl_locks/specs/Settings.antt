-- What the settings of a placement are for the core of its lock.
use Rattle.std.specs.Prelude.{◌≡◌}
use Rattle.rl_word.specs.Shapes.{TheShape}
use Rattle.rl_word.specs.declared.locks.LockName.{LockName}
use Rattle.rl_word.specs.declared.shapes.Knobs.{Knobs}
use Rattle.rl_place.specs.LockWords.{name_of}
use Rattle.rl_place.specs.Places.{ThePlace, IsProper}
use Rattle.rl_place.specs.Shapes.{shape_of, knobs_of}

-- what a core wants of a shape and of settings has each proper placement whose lock has this name
abbrev pub SuitsPlaces : LockName → (TheShape → Knobs → Type 0) → Type 0
SuitsPlaces name suits = (p : ThePlace) → IsProper p → name_of p.lock ≡ name → suits (shape_of p) (knobs_of p.lock)
