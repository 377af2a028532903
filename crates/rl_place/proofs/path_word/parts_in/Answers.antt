use Rattle.std.proofs.Common.{◌∷◌, ap, sym, length, arith}
use Rattle.rl_text.specs.Cut.{pieces}
use Rattle.rl_text.proofs.RowLemmas.{first_piece}
use Rattle.rl_place.specs.Paths.{parts_of}
use Rattle.rl_place.proofs.PathParts.{other_parts}
use Rattle.rl_place.proofs.path_word.parts_in.Goals as goal

pub returns-in-Some-cut-2 : goal.returns-in-Some-cut-2
unfolding parts_of
returns-in-Some-cut-2 c =
    let more = pieces 46 c.in-Some-cut-2.field-0.1.now in
    let p = first_piece 46 c.in-Some-cut-2.field-0.1.now in
    sym (rw (c.in-Some.ensures.0, c.in-Some-cut.ensures.0, c.in-Some-cut-2.ensures.0)
    (other_parts c.args.levels (c.in-Some.a.now ∷ c.in-Some-cut.b.now ∷ c.in-Some-cut-2.field-0.0.now ∷ more) (λ same. omega (arith, c.requires.1, ap length p.2, same))))
