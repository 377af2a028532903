use Rattle.std.proofs.Common.{◌≡◌, ◌<◌, ℕ, false, get_or}
use Rattle.rl_place.specs.declared.path.Path.{Path}
use Rattle.rl_place.specs.Paths.{prefix}
use Rattle.rl_place.specs.Numbering.{same_path}
use Rattle.rl_place.proofs.shape.first_node_under.Given as goal

abbrev pub invariant-loop-number : goal.invariant-loop-number
invariant-loop-number l = (d : Path) (k : ℕ) → k < l.number → same_path l.name (prefix (get_or l.nodes k d) l.name.len) ≡ false
