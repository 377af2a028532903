use Rattle.std.proofs.Common.{◌≡◌, ◌++◌, take}
use Rattle.rl_text.specs.Spelling.{text_of}
use Rattle.rl_place.specs.ShapeText.{shard_lines}
use Rattle.rl_place.proofs.shape_printer.put_shards.Given as goal

abbrev pub invariant-loop-shard : goal.invariant-loop-shard
invariant-loop-shard l = l.out.items ≡ l.fn.out.items ++ text_of (shard_lines (take l.shard l.homes))
