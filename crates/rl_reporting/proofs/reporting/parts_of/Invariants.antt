use Rattle.std.proofs.Common.{◌≡◌, map, take}
use Rattle.rl_machine.specs.Running.{running}
use Rattle.rl_reporting.specs.Reported.{part_of_replay}
use Rattle.rl_reporting.proofs.reporting.parts_of.Given as goal

-- the parts of the shards so far
abbrev pub invariant-loop-shard : goal.invariant-loop-shard
invariant-loop-shard g l = l.parts.items ≡ take l.shard (map (part_of_replay l.queues) (running g.C.ShardCore.says l.machine).shards)
