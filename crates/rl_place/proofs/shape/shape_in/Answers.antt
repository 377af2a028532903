use Rattle.std.proofs.Common.{ap, sym, subst, ◌∙◌, List, length, arith}
use Rattle.std.specs.List.{AllByRecursion}
use Rattle.rl_place.specs.declared.path.Path.{Path}
use Rattle.rl_place.specs.Numbering.{element_paths}
use Rattle.rl_place.specs.Places.{ThePlace, IsProper}
use Rattle.rl_place.proofs.ElementLaws.{IsShort, short-place, short-elements}
use Rattle.rl_place.proofs.shape.shape_in.Goals as goal

pub shape_under-requires : goal.shape_under-requires
shape_under-requires c =
    let place : ThePlace = record { levels = c.place.inside.levels; lock = c.place.inside.lock; geom = c.place.inside.geom; paths = c.place.inside.paths.items; homes = c.place.inside.homes.items } in
    let proper : IsProper place = subst (λ (p : ThePlace). IsProper p) (sym c.place.view_is) c.requires in
    let value = c.as_slice-paths.ensures.value in
    let names = c.in_ok-names.ensures.names ∙ ap element_paths value in
    let short = subst (λ (names : List Path). AllByRecursion IsShort names) (sym names) (short-elements place.paths (short-place place proper)) in
    (short, omega (arith, c.in_ok-nodes.ensures.few, ap length value, proper.most_ranks), omega (arith, c.in_ok-names.ensures.few, ap length value, proper.most_ranks))
