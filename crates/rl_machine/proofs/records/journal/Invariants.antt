-- The entries so far are the first of the journal.
use Rattle.std.proofs.Common.{◌≡◌, take}
use Rattle.rl_machine.specs.Promises.{shard_journal}
use Rattle.rl_machine.specs.State.{running_shard}
use Rattle.rl_machine.proofs.records.journal.Given as goal

abbrev pub invariant-loop-at : goal.invariant-loop-at
invariant-loop-at g l = l.entries.items ≡ take l.at (shard_journal (running_shard g.C.ShardCore.says l.shard))
