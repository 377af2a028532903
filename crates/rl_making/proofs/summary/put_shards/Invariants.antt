use Rattle.std.proofs.Common.{◌≡◌, ◌++◌, take}
use Rattle.rl_text.specs.Spelling.{text_of}
use Rattle.rl_making.specs.Summary.{shard_lines}
use Rattle.rl_making.proofs.summary.put_shards.Given as goal

-- the lines so far stand
abbrev pub invariant-loop-number : goal.invariant-loop-number
invariant-loop-number l = l.out.items ≡ l.fn.out.items ++ text_of (shard_lines (take l.number l.shards))
