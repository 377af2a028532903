-- The entries on the shards so far are counted.
use Rattle.std.proofs.Common.{◌≡◌, map, take}
use Rattle.rl_core.specs.RankGood.{entries_in}
use Rattle.rl_machine.specs.laws.RecordLaws.{kept_in}
use Rattle.rl_machine.proofs.state.MachineState.done_of.Given as goal

abbrev pub invariant-loop-shard : goal.invariant-loop-shard
invariant-loop-shard g l = l.done ≡ entries_in (map (kept_in g.C.ShardCore.says l.rank) (take l.shard-index l.self.shards.items))
