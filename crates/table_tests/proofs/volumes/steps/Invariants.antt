use Rattle.std.proofs.Common.{◌≡◌}
use Rattle.rl_model.specs.Table.{Table}
use Rattle.rl_volume.specs.Words.{volume_words}
use Rattle.rl_volume.specs.Volume.{IsVolume}
use Rattle.table_tests.proofs.volumes.steps.Given as goal

abbrev pub invariant-loop-call : goal.invariant-loop-call
invariant-loop-call g l = record {
  room : l.seen.room ≡ volume_words l.geom;
  volume : (table : Table) × IsVolume l.geom 0 l.words table;
}
