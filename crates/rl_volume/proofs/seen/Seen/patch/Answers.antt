use Rattle.std.proofs.Common.{◌≡◌, ◌∙◌, sym, ap, subst}
use Rattle.rl_volume.specs.Seen.{AgreesWith, patched}
use Rattle.rl_volume.specs.Decision.{words_written}
use Rattle.rl_volume.proofs.Patches.{agrees_below}
use Rattle.rl_volume.proofs.seen.Seen.patch.Goals as goal

pub returns-clause-agrees : goal.returns-clause-agrees
returns-clause-agrees c = λ words size agrees.
    let same : c.write_all.new.self.pairs ≡ patched c.args.self.now.pairs c.args.writes.now.items = c.write_all.ensures.patched ∙ ap (λ v. patched v.pairs c.as_slice.result.now) c.self.view_is ∙ ap (patched c.args.self.now.pairs) c.as_slice.ensures.value in
    subst (λ ps. AgreesWith ps (words_written words c.args.writes.now.items)) (sym same)
    (agrees_below c.args.self.now.room c.args.writes.now.items c.args.self.now.pairs words size c.requires.in_volume agrees)
