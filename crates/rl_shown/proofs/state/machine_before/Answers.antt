-- The run of the first turns is the run of the first steps.
use Rattle.std.proofs.Common.{length, take, ap, sym, subst, ◌∙◌}
use Rattle.std.specs.List.{AllByRecursion}
use Rattle.std.proofs.lemmas.List.{length-map}
use Rattle.rl_word.specs.Shapes.{TheShape}
use Rattle.rl_ops.specs.Schedule.{TurnFits}
use Rattle.rl_machine.specs.Running.{running}
use Rattle.rl_machine.specs.Run.{ranks_of_turns}
use Rattle.rl_inputs.proofs.SuitLaws.{sizes_suit}
use Rattle.rl_shown.proofs.ListingLaws.{run_first}
use Rattle.rl_shown.proofs.state.machine_before.Goals as goal

pub replay-requires-clause-batches : goal.replay-requires-clause-batches
replay-requires-clause-batches g c = sizes_suit c.args.place.now c.args.ops g.C.ShardCore.batches c.requires.batches c.requires.fits.1

pub replay-requires-clause-there : goal.replay-requires-clause-there
replay-requires-clause-there g c =
    let ranks = length c.args.place.now.paths in
    let many = ap (λ (s : TheShape). length s.node_of) c.requires.shape ∙ length-map c.args.place.now.paths _ in
    let all = subst (AllByRecursion (TurnFits ranks)) (sym c.as_slice.ensures) c.requires.fits.2.fit in
    subst (λ n. AllByRecursion (TurnFits n) c.as_slice-3.result.now) (sym many) (subst (AllByRecursion (TurnFits ranks)) (sym c.as_slice-3.ensures.value) (c.in_ok-front.ensures.there ranks all))

pub returns : goal.returns
returns g c =
    let ranks = ap ranks_of_turns c.as_slice-3.ensures.value ∙ c.in_ok-front.ensures.front ∙ ap (λ ts. take c.args.step (ranks_of_turns ts)) c.as_slice.ensures in
    run_first (running g.C.ShardCore.says) c.replay.result g.C.ShardCore.defined c.args.place.now _ c.args.ops c.args.shape.now c.knobs.result c.as_slice-2.result.now c.as_slice-3.result.now c.args.schedule.now.turns c.args.step
    c.place.view_is c.requires.shape c.knobs.ensures c.as_slice-2.ensures.value ranks c.replay.ensures.run
