use Rattle.std.proofs.Common.{◌≡◌, ◌++◌, drop}
use Rattle.rl_journal.specs.Blocks.{in_turn, calls_of}
use Rattle.rl_check.proofs.blocks.in_turn.Given as goal

abbrev pub invariant-loop-entry : goal.invariant-loop-entry
invariant-loop-entry l = record {
  size : l.plain.geom ≡ l.fn.plain.geom;
  told : l.replies.items ++ (in_turn l.fn.plain.geom l.plain.table (calls_of (drop l.entry-index l.block))).1 ≡ (in_turn l.fn.plain.geom l.fn.plain.table (calls_of l.block)).1;
  table : (in_turn l.fn.plain.geom l.plain.table (calls_of (drop l.entry-index l.block))).0 ≡ (in_turn l.fn.plain.geom l.fn.plain.table (calls_of l.block)).0;
}
