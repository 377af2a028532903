use Rattle.std.proofs.Common.{ap, ◌∙◌, length}
use Rattle.std.proofs.lemmas.List.{length-replicate}
use Rattle.rl_check.proofs.SlotLaws.{none_put, all_put}
use Rattle.rl_check.proofs.slots.slots_of.Goals as goal

pub loop-place-init : goal.loop-place-init
loop-place-init c =
    let filled = c.in_ok-slots.ensures.items_if_clones_equal (λ y e. e) in
    record { slots = none_put c.args.own.now _ _ filled; each = ap length filled ∙ length-replicate _ _ }

pub returns-clause-slots : goal.returns-clause-slots
returns-clause-slots c = all_put c.args.own.now c.loop-place.place _ c.loop-place-test.false c.loop-place.invariant.slots
