use Rattle.std.proofs.Common.{◌≡◌, ◌≤◌, ◌+◌, length}
use Rattle.std.specs.List.{fold}
use Rattle.rl_place.specs.Numbering.{seen_after, prefixes_to}
use Rattle.rl_place.proofs.names.see_groups.Given as goal

abbrev pub invariant-loop-len : goal.invariant-loop-len
invariant-loop-len l = record {
  few : length l.seen.keys ≤ length l.fn.seen.keys + l.len;
  so_far : l.seen.keys ≡ fold seen_after l.fn.seen.keys (prefixes_to l.path l.len);
}
