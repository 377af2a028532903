-- The rank's caller is one of them.
use Rattle.std.proofs.Common.{◌≡◌, ◌<◌, length, slice_get, Some, ap, sym, ◌∙◌, rules}
use Rattle.std.proofs.lemmas.Option.{slice_get-get_or}
use Rattle.rmalock.proofs.SeatLists.{one_caller_changed}
use Rattle.rmalock.proofs.callers.step_of.Goals as goal

pub step-requires : goal.step-requires
step-requires g c =
    let low : c.args.rank < length c.args.callers.now.items = search rules in
    let has : slice_get c.args.callers.now.items c.args.rank ≡ Some c.index_mut-caller.result.now = slice_get-get_or c.args.callers.now.items c.args.rank c.index_mut-caller.result.now low ∙ ap Some (sym c.index_mut-caller.ensures.value) in
    record { caller = (c.requires.callers c.args.rank c.index_mut-caller.result.now has).1 }

pub returns-clause-callers : goal.returns-clause-callers
returns-clause-callers g c =
    let low : c.args.rank < length c.args.callers.now.items = search rules in
    let has : slice_get c.args.callers.now.items c.args.rank ≡ Some c.index_mut-caller.result.now = slice_get-get_or c.args.callers.now.items c.args.rank c.index_mut-caller.result.now low ∙ ap Some (sym c.index_mut-caller.ensures.value) in
    one_caller_changed g.C.ShardCore.says c.args.shards.now c.args.callers.now.items c.args.rank c.index_mut-caller.result.now c.step.new.self c.requires.callers has (ap (λ w. w.0) c.step.ensures.same) c.step.ensures.caller
