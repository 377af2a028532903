use Rattle.std.proofs.Common.{◌∙◌, ◌<◌, ◌≤◌, ◌-◌, ap, sym, arith, slice_index}
use Rattle.rl_model.specs.declared.geom.Geom.{Geom}
use Rattle.rl_volume.specs.Words.{volume_words}
use Rattle.rl_volume.specs.Volume.{start_words}
use Rattle.rl_site.specs.laws.OpeningLaws.{opening_in_volume, opening_behind}
use Rattle.rl_site.proofs.site.opening_word.Goals as goal

pub returns-then-word-volume_words : goal.returns-then-word-volume_words
returns-then-word-volume_words c s is =
    let low = c.if-word-lt-VOLUME_BASE.false in
    let inside : c.args.word - 2 < volume_words s.geom = omega (arith, c.if-word-volume_words.true, c.volume_words.ensures, ap volume_words is) in
    c.start_word.ensures.value ∙ ap (λ (g : Geom). slice_index (start_words g) (c.args.word - 2)) (sym is) ∙ sym (opening_in_volume s c.args.word (omega arith) inside)

pub returns-else-word-volume_words : goal.returns-else-word-volume_words
returns-else-word-volume_words c s is =
    let low = c.if-word-lt-VOLUME_BASE.false in
    let behind : volume_words s.geom ≤ c.args.word - 2 = omega (arith, c.if-word-volume_words.false, c.volume_words.ensures, ap volume_words is) in
    sym (opening_behind s c.args.word (omega arith) behind)
