-- The machine begins with the ranks of the placement, and no step.
use Rattle.std.proofs.Common.{length, ap, ◌∙◌, arith, rules}
use Rattle.std.proofs.lemmas.Grind.{common_steps}
use Rattle.rl_place.specs.Places.{ThePlace}
use Rattle.rl_step.specs.Answers.{steps_made}
use Rattle.rl_inputs.proofs.SuitLaws.{sizes_suit}
use Rattle.rmalock_picture.proofs.recording.record_with.Goals as goal

pub loop-turn-init : goal.loop-turn-init
loop-turn-init g c =
    let made = c.in_ok-machine.ensures.made in
    let paths = ap (λ (p : ThePlace). length p.paths) c.place.view_is in (
      ap (λ m. steps_made m.steps) made,
      ap (λ m. length m.calls) made ∙ c.requires.calls.ranks_there,
      first_of (grind (arith, common_steps, paths, c.in_ok-lanes.ensures, c.len-ranks.ensures), search (rules, paths)),
    )

pub new-requires-clause-batches : goal.new-requires-clause-batches
new-requires-clause-batches g c = sizes_suit c.args.place.now c.args.ops g.C.ShardCore.batches c.requires.batches c.requires.suits
