-- The head of a queue, as a layer above reads it off, and how many passes it still has.
use Rattle.std.specs.Prelude.{ℕ, List, [], ◌∷◌, Option, Some, None, ◌+◌, ◌≤◌}
use Rattle.rl_queue.specs.declared.view.Phase.{Phase}
use Rattle.rl_queue.specs.Lane.{Lane, credit}

-- the head of a queue: the first of its line, with the phase and the status that it has
pub record Head : Type 0 where
  pub who : ℕ
  pub phase : Phase
  pub status : ℕ

-- the head of a line, and a head by its parts
abbrev pub head_in : Lane → List ℕ → Option Head
head_in L [] = None
head_in L (h ∷ r) = Some (record { who = h; phase = L.phase h; status = L.status h })

-- how many passes the head of a queue may still make or hand on
abbrev pub head_credit : Option Head → ℕ
head_credit None = 0
head_credit (Some h) = credit h.phase h.status

-- so many passes and this head cost no more than that head had
abbrev pub Spends : ℕ → Option Head → Option Head → Type 0
Spends passes x y = passes + head_credit y ≤ head_credit x
