use Rattle.std.proofs.Common.{◌≡◌, map, take}
use Rattle.rl_machine.specs.Running.{running}
use Rattle.rl_making.specs.Counting.{counts_on}
use Rattle.rl_making.proofs.counts.all_shards.Given as goal

-- what is counted of the shards so far
abbrev pub invariant-loop-shard : goal.invariant-loop-shard
invariant-loop-shard g l = l.counts.items ≡ take l.shard (map counts_on (running g.C.ShardCore.says l.machine).shards)
