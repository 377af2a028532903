use Rattle.std.proofs.Common.{◌≡◌}
use Rattle.rl_volume.specs.Words.{volume_words}
use Rattle.rl_volume.specs.Seen.{AgreesWith}
use Rattle.table_tests.proofs.volumes.read.Given as goal

abbrev pub invariant-loop-loads : goal.invariant-loop-loads
invariant-loop-loads g l = record {
  room : l.seen.room ≡ volume_words l.geom;
  agrees : AgreesWith l.seen.pairs l.words;
}
