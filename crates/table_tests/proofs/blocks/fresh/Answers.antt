use Rattle.std.proofs.Common.{◌≡◌, ◌∙◌, sym, subst, refl, arith}
use Rattle.std.proofs.lemmas.List.{append-nil}
use Rattle.rl_step.specs.declared.events.Standing.TheVariants.{Out}
use Rattle.rl_site.specs.Site.{places}
use Rattle.rl_site.specs.Opens.{opening_words}
use Rattle.table_tests.specs.OneRank.{one_site, IsAlone}
use Rattle.table_tests.proofs.AloneLaws.{at_first}
use Rattle.table_tests.proofs.blocks.fresh.Goals as goal

pub returns : goal.returns
returns c =
    let site = one_site c.args.geom c.args.room in
    let many : places site ≡ c.args.room = omega arith in
    let words : c.in_ok-words.words.items ≡ opening_words site = c.in_ok-words.ensures site refl many ∙ append-nil (opening_words site) in
    subst (λ ws. IsAlone c.args.geom c.args.room ws Out c.in_ok-work.work) (sym words)
    (subst (IsAlone c.args.geom c.args.room _ Out) (sym c.in_ok-work.ensures) (at_first c.args.geom c.args.room c.requires.fits))
