use Rattle.std.proofs.Common.{◌≡◌, ◌≤◌, length}
use Rattle.rl_ops.specs.declared.ops.TheConstants.{MOST_CALLS}
use Rattle.rl_ops.specs.Body.{gathered}
use Rattle.rl_ops.specs.OpsReading.{lines_at, calls_at, with_line}
use Rattle.rl_ops.proofs.ops_reader.calls_of.Given as goal

abbrev pub invariant-loop-read : goal.invariant-loop-read
invariant-loop-read l = record {
  few : l.progress.count ≤ MOST_CALLS;
  ranks : length l.ops.by_rank ≡ l.ranks;
  sizes : length l.ops.sizes ≡ l.ranks;
  so_far : gathered with_line l.ops (lines_at l.version l.ranks l.shards l.progress l.lines.read l.lines.rows) ≡ calls_at l.version l.ranks l.shards l.fn.lines.read l.fn.lines.rows;
}

abbrev pub decreases-loop-read : goal.decreases-loop-read
decreases-loop-read l = length l.lines.rows
