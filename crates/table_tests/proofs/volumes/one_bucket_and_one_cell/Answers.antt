use Rattle.std.proofs.Common.{sym, subst}
use Rattle.rl_model.specs.declared.geom.Geom.{Geom}
use Rattle.rl_volume.specs.Volume.{IsVolume}
use Rattle.table_tests.proofs.volumes.one_bucket_and_one_cell.Goals as goal

pub steps-requires-clause-volume : goal.steps-requires-clause-volume
steps-requires-clause-volume g c =
    let geom : Geom = record { shards = 1; buckets = 1; overflow = 1 } in
    let held = c.in_ok-words.ensures 0 in
    (held.0, subst (λ ws. IsVolume geom 0 ws held.0) (sym c.as_mut_slice-volume.ensures.value) held.1)

pub content-requires-clause-well_formed : goal.content-requires-clause-well_formed
content-requires-clause-well_formed g c = record { shard = 0; table = c.steps.ensures.volume.0; volume = c.steps.ensures.volume.1 }
