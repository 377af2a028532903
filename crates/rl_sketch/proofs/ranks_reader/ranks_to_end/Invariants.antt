use Rattle.std.proofs.Common.{◌≡◌, ◌+◌, ◌-◌, ◌≤◌, length}
use Rattle.rl_sketch.specs.SketchReading.{may_of, ranks_to_end, listed_to_end}
use Rattle.rl_sketch.proofs.RankReading.{RanksSoFar}
use Rattle.rl_sketch.proofs.ranks_reader.ranks_to_end.Given as goal

abbrev pub invariant-ranks : goal.invariant-ranks
invariant-ranks l = record {
  next : l.words.next ≡ 2 + length l.taken.items;
  few : length l.taken.items ≤ l.may.ranks;
  reading : RanksSoFar (ranks_to_end (may_of l.may)) (may_of l.may) 2 l.fn.words.row l.words l.taken.items (listed_to_end (may_of l.may) l.fn.words.row);
}

abbrev pub decreases-ranks : goal.decreases-ranks
decreases-ranks l = l.may.ranks + 1 - length l.taken.items
