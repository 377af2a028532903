use Rattle.std.proofs.Common.{◌≡◌, ◌+◌, ◌-◌, ◌≤◌, length}
use Rattle.rl_text.specs.Rows.{row_of}
use Rattle.rl_sketch.specs.SketchReading.{may_of, ranks_before, listed_before}
use Rattle.rl_sketch.proofs.RankReading.{RanksSoFar}
use Rattle.rl_sketch.proofs.ranks_reader.ranks_before.Given as goal

abbrev pub invariant-ranks : goal.invariant-ranks
invariant-ranks l = record {
  row : l.words.row ≡ row_of l.line;
  next : l.words.next ≡ 1 + length l.taken.items;
  few : length l.taken.items ≤ l.may.ranks;
  reading : RanksSoFar (ranks_before (may_of l.may)) (may_of l.may) 1 (row_of l.line) l.words l.taken.items (listed_before (may_of l.may) (row_of l.line));
}

abbrev pub decreases-ranks : goal.decreases-ranks
decreases-ranks l = l.may.ranks + 1 - length l.taken.items
