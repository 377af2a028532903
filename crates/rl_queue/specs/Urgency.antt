-- Who goes on in a queue: who uses it, but for a member that waits for a word that is still 0.
use Rattle.std.specs.Prelude.{ℕ, ◌==◌, List, if◌then◌else◌, slice_index, Option, Some, None}
use Rattle.rl_word.specs.declared.acts.Act.{Act}
use Rattle.rl_word.specs.declared.acts.Act.TheVariants.{Load}
use Rattle.rl_queue.specs.declared.view.Phase.{Phase}
use Rattle.rl_queue.specs.declared.view.Phase.TheVariants.{Idle, Wait, Await}

-- what a rank finds that is about to make a load
abbrev pub loaded : List ℕ → Option Act → ℕ
loaded words (Some (Load w)) = slice_index words w
loaded words planned = 0

-- How urgently a member goes on in each phase, by what it loads. It waits for others where it was handed nothing, and where its follower
-- hasn't linked itself.
abbrev pub urgent_at : Phase → ℕ → Option ℕ
urgent_at Idle word = None
urgent_at Wait word = if word == 0 then None else Some 0
urgent_at (Await left) word = if word == 0 then None else Some 0
urgent_at _ word = Some 0
