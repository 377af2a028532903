use Rattle.std.proofs.Common.{◌≡◌, ◌<◌, ◌^◌}
use Rattle.rl_model.specs.Table.{Table}
use Rattle.rl_volume.specs.Words.{volume_words}
use Rattle.rl_volume.specs.Volume.{IsVolume}
use Rattle.table_tests.proofs.volumes.the_volume_answers_as_the_table.Given as goal

abbrev pub invariant-loop : goal.invariant-loop
invariant-loop g l = record {
  room : l.seen.room ≡ volume_words l.geom;
  volume : (table : Table) × IsVolume l.geom 0 l.volume table;
  small : l.number < 2 ^ 31;
}
