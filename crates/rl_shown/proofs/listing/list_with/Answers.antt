-- The machine begins as the definition says, its turns are taken one after the other, and their lines stand.
use Rattle.std.proofs.Common.{◌≡◌, ◌≤◌, ◌++◌, ◌+◌, [], ◌∷◌, codes, Some, length, slice_get, slice_index_or, sum_by, take, ap, sym, subst, ◌∙◌, arith}
use Rattle.std.proofs.lemmas.Option.{slice_get-get_or}
use Rattle.std.proofs.lemmas.List.{append-nil}
use Rattle.std.proofs.Math.Seq.{take-length}
use Rattle.rl_text.specs.Spelling.{text_of}
use Rattle.rl_step.specs.Answers.{steps_made}
use Rattle.rl_place.specs.Shapes.{shape_of, knobs_of}
use Rattle.rl_ops.specs.declared.schedule.Turn.{Turn}
use Rattle.rl_ops.specs.declared.schedule.Turn.TheVariants.{Steps}
use Rattle.rl_ops.specs.Schedule.{steps_of}
use Rattle.rl_report.specs.Naming.{naming_of}
use Rattle.rl_machine.specs.Running.{running}
use Rattle.rl_machine.specs.Run.{steps_in, ranks_of_turns, turn_ranks}
use Rattle.rl_machine.specs.laws.ReplayLaws.{steps-more, steps-within}
use Rattle.rl_machine.specs.Start.{start_of}
use Rattle.rl_inputs.proofs.SuitLaws.{sizes_suit}
use Rattle.rl_shown.specs.Listing.{head_lines, step_lines}
use Rattle.rl_shown.proofs.ListingLaws.{steps_are, turn_more, run_turn, start_is, the_text}
use Rattle.rl_shown.proofs.listing.list_with.Goals as goal

pub new-requires-clause-batches : goal.new-requires-clause-batches
new-requires-clause-batches g c = sizes_suit c.args.place.now c.args.ops g.C.ShardCore.batches c.requires.batches c.requires.fits.1

pub loop-turn-init : goal.loop-turn-init
loop-turn-init g c =
    let place = c.args.place.now in
    let made = c.in_ok-machine.ensures.made in (
      c.in_ok-out.ensures ∙ ap (λ n. text_of (head_lines n)) c.in_ok-naming.ensures.named ∙ sym (append-nil (text_of (head_lines (naming_of place)))),
      made ∙ start_is g.C.ShardCore.defined place _ c.args.ops _ _ _ c.place.view_is c.in_ok-shape.ensures.exact c.knobs-knobs.ensures c.as_slice-homes.ensures.value,
      ap (λ m. steps_made m.steps) made,
      ap (λ m. length m.calls) made ∙ c.requires.fits.0.ranks_there,
    )

pub take_turn-requires-clause-few : goal.take_turn-requires-clause-few
take_turn-requires-clause-few g c =
    let ts = c.as_slice-turns.result.now in
    let i = c.loop-turn.turn-index in
    let t : Turn = slice_index_or ts i (Steps 0 0) in
    let at : slice_get ts i ≡ Some t = slice_get-get_or ts i (Steps 0 0) c.loop-turn-test.true in
    let made : steps_made c.loop-turn.machine.steps ≡ steps_in (take i ts) = c.loop-turn.invariant.2 in
    let more = steps-more ts i t at in
    let within : steps_in (take (i + 1) ts) ≤ steps_in ts = steps-within ts (i + 1) in
    let few : sum_by steps_of ts ≤ 2000000 = subst (λ z. sum_by steps_of z ≤ 2000000) (sym c.as_slice-turns.ensures) c.requires.fits.2.few in
    let same = steps_are ts in
    omega (arith, made, more, within, few, same)

pub loop-turn-preserved : goal.loop-turn-preserved
loop-turn-preserved g c =
    let place = c.args.place.now in
    let ts = c.as_slice-turns.result.now in
    let i = c.loop-turn.turn-index in
    let t : Turn = slice_index_or ts i (Steps 0 0) in
    let at : slice_get ts i ≡ Some t = slice_get-get_or ts i (Steps 0 0) c.loop-turn-test.true in
    let first = start_of g.C.ShardCore.defined (shape_of place) (knobs_of place.lock) place.geom place.homes c.args.ops in
    let mid = running g.C.ShardCore.says c.loop-turn.machine in
    let now = running g.C.ShardCore.says c.take_turn.new.machine in
    let was = c.loop-turn.invariant in
    let took = c.in_ok-take_turn.ensures in (
      took.text ∙ ap (λ n. c.loop-turn.out.items ++ text_of (step_lines place n c.args.window mid (turn_ranks t))) c.in_ok-naming.ensures.named
          ∙ ap (λ z. z ++ text_of (step_lines place (naming_of place) c.args.window mid (turn_ranks t))) was.0
          ∙ turn_more place (naming_of place) c.args.window (text_of (head_lines (naming_of place))) first mid ts i t at was.1,
      run_turn first mid now ts i t at was.1 took.run,
      took.counted ∙ ap (λ n. n + steps_of t) was.2 ∙ sym (steps-more ts i t at),
      ap length took.calls ∙ was.3,
    )

pub returns : goal.returns
returns g c =
    let place = c.args.place.now in
    let ts = c.as_slice-turns.result.now in
    let first = start_of g.C.ShardCore.defined (shape_of place) (knobs_of place.lock) place.geom place.homes c.args.ops in
    let done : c.loop-turn.turn-index ≡ length ts = omega arith in
    let all = ap (λ n. take n ts) done ∙ take-length ts ∙ c.as_slice-turns.ensures in
    c.in_ok-extend_from_slice.ensures.items
    ∙ ap (λ z. z ++ (codes "end" ++ 10 ∷ [])) (c.loop-turn.invariant.0 ∙ ap (λ z. text_of (head_lines (naming_of place)) ++ text_of (step_lines place (naming_of place) c.args.window first (ranks_of_turns z))) all)
    ∙ the_text (naming_of place) (step_lines place (naming_of place) c.args.window first (ranks_of_turns c.args.schedule.now.turns))
