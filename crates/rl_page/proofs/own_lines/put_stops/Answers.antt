-- One turn more.
use Rattle.std.proofs.Common.{◌≡◌, ◌≤◌, ◌+◌, ◌++◌, Some, length, slice_get, slice_index_or, take, ap, ◌∙◌, arith}
use Rattle.std.proofs.lemmas.Option.{slice_get-get_or}
use Rattle.std.proofs.Math.Seq.{take-length}
use Rattle.rl_text.specs.Spelling.{text_of}
use Rattle.rl_ops.specs.declared.schedule.Turn.{Turn}
use Rattle.rl_ops.specs.declared.schedule.Turn.TheVariants.{Steps}
use Rattle.rl_machine.specs.Run.{steps_in}
use Rattle.rl_machine.specs.laws.ReplayLaws.{steps-more, steps-within}
use Rattle.rl_shown.proofs.ListingLaws.{steps_are}
use Rattle.rl_page.specs.PageData.{stop_lines}
use Rattle.rl_page.proofs.StopLaws.{text_more}
use Rattle.rl_page.proofs.own_lines.put_stops.Goals as goal

pub overflow_add-made : goal.overflow_add-made
overflow_add-made c =
    let ts = c.args.turns.now in
    let i = c.loop-turn.turn-index in
    let t : Turn = slice_index_or ts i (Steps 0 0) in
    let at : slice_get ts i ≡ Some t = slice_get-get_or ts i (Steps 0 0) c.loop-turn-test.true in
    let made = c.loop-turn.invariant.1 in
    let more = steps-more ts i t at in
    let within : steps_in (take (i + 1) ts) ≤ steps_in ts = steps-within ts (i + 1) in
    let same = steps_are ts in
    let few = c.requires in
    let next = c.steps-made.ensures in
    omega (arith, made, more, within, same, few, next)

pub loop-turn-preserved : goal.loop-turn-preserved
loop-turn-preserved c =
    let ts = c.args.turns.now in
    let i = c.loop-turn.turn-index in
    let t : Turn = slice_index_or ts i (Steps 0 0) in
    let at : slice_get ts i ≡ Some t = slice_get-get_or ts i (Steps 0 0) c.loop-turn-test.true in
    let was = c.loop-turn.invariant in (
      text_more c.args.out.now.items c.loop-turn.out.items c.put_stop.new.out.items ts i t c.loop-turn.made at was.0 was.1 c.in_ok-put_stop.ensures,
      (let more = steps-more ts i t at in let n = c.steps-made.ensures in omega arith),
    )

pub returns : goal.returns
returns c =
    let ts = c.args.turns.now in
    let done : c.loop-turn.turn-index ≡ length ts = omega arith in
    c.loop-turn.invariant.0 ∙ ap (λ z. c.args.out.now.items ++ text_of (stop_lines 0 z)) (ap (λ n. take n ts) done ∙ take-length ts)
