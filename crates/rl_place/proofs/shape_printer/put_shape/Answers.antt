use Rattle.std.proofs.Common.{ap, ◌∙◌}
use Rattle.rl_word.specs.Shapes.{TheShape}
use Rattle.rl_place.specs.Places.{ThePlace}
use Rattle.rl_place.proofs.ShapePrinting.{shape-printed}
use Rattle.rl_place.proofs.shape_printer.put_shape.Goals as goal

pub returns : goal.returns
returns c =
    let paths = c.as_slice.ensures.value ∙ ap (λ (p : ThePlace). p.paths) c.place.view_is in
    let elements = c.as_slice-2.ensures.value ∙ ap (λ (s : TheShape). s.elements) c.shape.view_is in
    let homes = c.as_slice-3.ensures.value ∙ ap (λ (p : ThePlace). p.homes) c.place.view_is in
    shape-printed c.args.place.now c.args.shape.now _ _ _ _ _ _ _ _ _ _ c.requires.1 paths elements homes c.in_ok-extend_from_slice.ensures.items c.in_ok-put_sizes.ensures c.in_ok-put_nodes_under.ensures c.in_ok-put_elements_under.ensures c.in_ok-put_shards.ensures c.in_ok-extend_from_slice-2.ensures.items
