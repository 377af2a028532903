use Rattle.std.proofs.Common.{◌∙◌, ap, sym, subst}
use Rattle.rl_model.specs.Call.{shard_of}
use Rattle.rl_model.specs.Table.{apply}
use Rattle.rl_volume.specs.Volume.{IsVolume}
use Rattle.rl_volume.specs.Decision.{words_written, HasRead}
use Rattle.table_tests.proofs.volumes.done.Goals as goal

pub returns-clause-volume : goal.returns-clause-volume
returns-clause-volume g c =
    let geom = c.args.geom in
    let words = c.args.words.now in
    let before = c.requires.volume.0 in
    let read : HasRead geom c.args.call c.read-loads.new.seen.pairs words before = record {
      volume = subst (λ s. IsVolume geom s words before) (sym c.requires.mine) c.requires.volume.1;
      agrees = c.read-loads.ensures.agrees;
      over = c.read-loads.ensures.over;
    } in
    let kept = c.decide-writes.ensures.keeps words before read in
    let made = c.make.ensures ∙ ap (words_written words) c.as_slice.ensures.value in (
      (apply geom c.args.call before).0,
      subst (λ s. IsVolume geom s c.make.new.words (apply geom c.args.call before).0) c.requires.mine
          (subst (λ ws. IsVolume geom (shard_of geom c.args.call) ws (apply geom c.args.call before).0) (sym made) kept),
    )
