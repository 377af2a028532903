use Rattle.std.proofs.Common.{◌∙◌, ◌++◌, ◌∷◌, [], ◌<◌, ◌≤◌, ap, sym, subst, arith, length, take}
use Rattle.std.specs.FinMap as map
use Rattle.std.proofs.lemmas.List.{take_all}
use Rattle.std.proofs.lemmas.Grind.{take_at_read}
use Rattle.rl_volume.specs.Volume.{IsVolume, start_words}
use Rattle.rl_volume.proofs.StartLaws.{starts, start_size}
use Rattle.table_tests.proofs.volumes.start.Goals as goal

pub loop-word-preserved : goal.loop-word-preserved
loop-word-preserved c =
    let words = start_words c.args.geom in
    let i = c.loop-word.word in
    let below : i < length words = omega (arith, c.loop-word-test.true, c.volume_words-word-end.ensures, start_size c.args.geom) in
    c.in_ok-push.ensures.items ∙ ap (λ ws. ws ++ c.start_word.result ∷ []) c.loop-word.invariant ∙ ap (λ w. take i words ++ w ∷ []) c.start_word.ensures.value ∙ sym (take_at_read words i 0 below).1

pub returns : goal.returns
returns c shard =
    let words = start_words c.args.geom in
    let past : length words ≤ c.loop-word.word = omega (arith, c.loop-word-test.false, c.volume_words-word-end.ensures, start_size c.args.geom) in
    (map.empty, subst (λ ws. IsVolume c.args.geom shard ws map.empty) (sym (c.loop-word.invariant ∙ take_all c.loop-word.word words past)) (starts c.args.geom shard))
