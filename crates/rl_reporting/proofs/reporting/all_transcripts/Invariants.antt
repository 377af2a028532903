use Rattle.std.proofs.Common.{◌≡◌, map, take}
use Rattle.rl_machine.specs.Running.{running}
use Rattle.rl_machine.specs.Promises.{transcripts_on}
use Rattle.rl_reporting.specs.Lists.{lists_in}
use Rattle.rl_reporting.proofs.reporting.all_transcripts.Given as goal

-- those of the shards so far
abbrev pub invariant-loop-shard : goal.invariant-loop-shard
invariant-loop-shard g l = map lists_in l.told.items ≡ take l.shard (map transcripts_on (running g.C.ShardCore.says l.machine).shards)
