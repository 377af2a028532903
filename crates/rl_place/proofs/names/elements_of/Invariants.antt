use Rattle.std.proofs.Common.{◌≡◌, ◌≤◌, ◌+◌, ◌*◌, length, take, ◌∷◌, []}
use Rattle.std.specs.List.{fold}
use Rattle.rl_place.specs.Paths.{root_path}
use Rattle.rl_place.specs.Numbering.{elements_after}
use Rattle.rl_place.proofs.names.elements_of.Given as goal

abbrev pub invariant-loop-path : goal.invariant-loop-path
invariant-loop-path l = record {
  few : length l.elements.keys ≤ 1 + 3 * l.path-index;
  so_far : l.elements.keys ≡ fold elements_after (root_path ∷ []) (take l.path-index l.paths);
}
