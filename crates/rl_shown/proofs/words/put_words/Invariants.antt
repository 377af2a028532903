-- the shards so far are told
use Rattle.std.proofs.Common.{◌≡◌, ◌++◌}
use Rattle.std.specs.Prelude.{flat_map}
use Rattle.std.specs.List.{range_with_len}
use Rattle.rl_text.specs.Spelling.{text_of}
use Rattle.rl_machine.specs.Running.{running}
use Rattle.rl_shown.specs.State.{lines_of_shard}
use Rattle.rl_shown.proofs.words.put_words.Given as goal

abbrev pub invariant-loop-shard : goal.invariant-loop-shard
invariant-loop-shard g l =
    l.out.items ≡ l.fn.out.items ++ text_of (flat_map (lines_of_shard l.place l.naming (running g.C.ShardCore.says l.machine)) (range_with_len 0 l.shard))
