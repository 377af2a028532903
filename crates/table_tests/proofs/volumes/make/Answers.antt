use Rattle.std.proofs.Common.{◌∙◌, ap, sym, slice_set, get_or}
use Rattle.rl_volume.specs.declared.write.Write.{Write}
use Rattle.rl_volume.proofs.Volumes.{written_more}
use Rattle.table_tests.proofs.volumes.make.Goals as goal

pub loop-write-preserved : goal.loop-write-preserved
loop-write-preserved c =
    let none : Write = record { word = 0; value = 0 } in
    let i = c.loop-write.write-index in
    let w = get_or c.args.writes.now i none in
    ap (λ ws. slice_set ws w.word w.value) c.loop-write.invariant ∙ sym (written_more c.args.writes.now c.args.words.now i none c.loop-write-test.true)
