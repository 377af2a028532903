-- One rank alone at its site.
use Rattle.std.specs.Prelude.{◌≡◌, ℕ, List, [], ◌∷◌}
use Rattle.rl_model.specs.declared.geom.Geom.{Geom}
use Rattle.rl_step.specs.declared.events.Standing.{Standing}
use Rattle.rl_site.specs.Site.{Site}
use Rattle.rl_work.specs.Work.{TheWork}
use Rattle.rl_work.specs.WorkGood.{WorkSide, WorkGood}

-- its site, with room for so many updates
abbrev pub one_site : Geom → ℕ → Site
one_site geom room = record { geom = geom; shard = 0; rooms = room ∷ [] }

abbrev pub one_side : Standing → TheWork → List WorkSide
one_side standing work = record { standing = standing; work = work } ∷ []

-- words and rank meet the rule, and its transcript has that room too
pub record IsAlone (geom : Geom) (room : ℕ) (words : List ℕ) (standing : Standing) (work : TheWork) : Type 0 where
  pub good : WorkGood (one_site geom room) words (one_side standing work)
  pub same_room : work.transcript.room ≡ room
