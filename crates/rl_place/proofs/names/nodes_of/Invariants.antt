use Rattle.std.proofs.Common.{◌≡◌, ◌≤◌, length, take}
use Rattle.std.proofs.Common.{[]}
use Rattle.std.specs.List.{fold}
use Rattle.rl_place.specs.Numbering.{seen_after}
use Rattle.rl_place.proofs.names.nodes_of.Given as goal

abbrev pub invariant-loop-path : goal.invariant-loop-path
invariant-loop-path l = record {
  few : length l.nodes.keys ≤ l.path-index;
  so_far : l.nodes.keys ≡ fold seen_after [] (take l.path-index l.paths);
}
