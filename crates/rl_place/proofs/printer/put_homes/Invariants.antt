use Rattle.std.proofs.Common.{◌≡◌, ◌++◌, take}
use Rattle.rl_text.specs.Spelling.{text_of}
use Rattle.rl_place.specs.Spelling.{home_lines}
use Rattle.rl_place.proofs.printer.put_homes.Given as goal

abbrev pub invariant-loop-shard : goal.invariant-loop-shard
invariant-loop-shard l = l.out.items ≡ l.fn.out.items ++ text_of (home_lines l.nodes 0 (take l.shard l.homes))
