-- The copies so far are of the first ranks' entries.
use Rattle.std.proofs.Common.{◌≡◌, map, take}
use Rattle.rl_machine.specs.Promises.{transcripts_on}
use Rattle.rl_machine.specs.State.{running_shard}
use Rattle.rl_machine.proofs.records.transcripts.Given as goal

abbrev pub invariant-loop-rank : goal.invariant-loop-rank
invariant-loop-rank g l = map (λ t. t.items) l.transcripts.items ≡ take l.rank (transcripts_on (running_shard g.C.ShardCore.says l.shard))
