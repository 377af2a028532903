use Rattle.std.proofs.Common.{rules, ◌∷◌, [], ◌++◌, map, ap, sym, ◌∙◌, append_assoc}
use Rattle.std.specs.Vec.Iter.{into_iter_items}
use Rattle.rl_window.specs.Seats.{view_of}
use Rattle.rl_window.proofs.closing.join_all.Goals as goal

pub loop-seat-preserved : goal.loop-seat-preserved
loop-seat-preserved g c =
    let was = c.loop-seat.invariant in
    let steps = c.in-Some.ensures.steps in
    let rest = into_iter_items c.next.new.self in (
      search rules,
      search rules,
      c.join_one.ensures.closing rest (rw steps.0 at was.2),
      ap (λ l. l ++ map view_of rest) c.join_one.ensures.views ∙ (append_assoc c.loop-seat.views.items (c.in-Some.seat.view ∷ []) (map view_of rest) ∙ (ap (λ l. c.loop-seat.views.items ++ map view_of l) (sym steps.0) ∙ was.3)),
    )
