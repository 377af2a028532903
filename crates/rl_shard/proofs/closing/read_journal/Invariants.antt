-- The entries so far are the first of the journal.
use Rattle.std.proofs.Common.{◌≡◌, ◌≤◌, sum, take, vec_capacity}
use Rattle.rl_core.specs.ShardTables.{journal_at}
use Rattle.rl_shard.proofs.closing.read_journal.Given as goal

abbrev pub invariant-loop-at : goal.invariant-loop-at
invariant-loop-at g l = (l.journal.items ≡ take l.at (journal_at (g.C.ShardCore.says l.core).table l.words)) × (sum (g.C.ShardCore.says l.core).table.site.rooms ≤ vec_capacity l.journal)
