use Rattle.std.proofs.Common.{sym, subst, arith}
use Rattle.rl_model.specs.declared.geom.Geom.{Geom}
use Rattle.rl_volume.specs.Volume.{IsVolume}
use Rattle.table_tests.proofs.volumes.the_volume_answers_as_the_table.Goals as goal

pub loop-init : goal.loop-init
loop-init g c =
    let geom : Geom = record { shards = 1; buckets = 2; overflow = 3 } in
    let held = c.in_ok-words.ensures 0 in
    record {
      room = c.in_ok-seen.ensures.room;
      volume = (held.0, subst (λ ws. IsVolume geom 0 ws held.0) (sym c.as_mut_slice-volume.ensures.value) held.1);
      small = omega arith;
    }
