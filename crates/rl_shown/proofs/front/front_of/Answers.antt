-- One turn more.
use Rattle.std.proofs.Common.{◌≡◌, ◌-◌, Some, length, slice_get, slice_index_or, take, ap, sym, subst, ◌∙◌, arith}
use Rattle.std.specs.List.{AllByRecursion}
use Rattle.std.proofs.lemmas.Option.{slice_get-get_or}
use Rattle.std.proofs.Math.Seq.{take-length}
use Rattle.rl_ops.specs.declared.schedule.Turn.{Turn}
use Rattle.rl_ops.specs.declared.schedule.Turn.TheVariants.{Steps}
use Rattle.rl_ops.specs.Schedule.{TurnFits}
use Rattle.rl_machine.specs.Run.{ranks_of_turns}
use Rattle.rl_shown.proofs.FrontLaws.{front_more, left_more, few_in, all_at, all_more, same_there}
use Rattle.rl_shown.proofs.front.front_of.Goals as goal

pub loop-turn-preserved : goal.loop-turn-preserved
loop-turn-preserved c =
    let ts = c.args.turns.now in
    let i = c.loop-turn.turn-index in
    let t : Turn = slice_index_or ts i (Steps 0 0) in
    let at : slice_get ts i ≡ Some t = slice_get-get_or ts i (Steps 0 0) c.loop-turn-test.true in
    let was = c.loop-turn.invariant in
    let pushed = c.in_ok-push.ensures.items in (
      ap ranks_of_turns pushed ∙ front_more ts c.loop-turn.front.items c.args.steps c.loop-turn.left i t c.shortened.result at was.0 was.1 c.shortened.ensures.ranks,
      left_more ts c.args.steps c.loop-turn.left c.saturating_sub-left.result i t at was.1 (c.saturating_sub-left.ensures ∙ ap (λ n. c.loop-turn.left - n) c.steps.ensures),
      λ ranks all. subst (AllByRecursion (TurnFits ranks)) (sym pushed)
          (all_more (TurnFits ranks) c.loop-turn.front.items c.shortened.result (was.2 ranks all) (same_there ranks t c.shortened.result c.shortened.ensures.rank (all_at (TurnFits ranks) ts i t all at))),
    )

pub returns : goal.returns
returns c =
    let ts = c.args.turns.now in
    let done : c.loop-turn.turn-index ≡ length ts = omega arith in
    let was = c.loop-turn.invariant in
    let all = was.0 ∙ ap (λ z. take c.args.steps (ranks_of_turns z)) (ap (λ n. take n ts) done ∙ take-length ts) in
    record { front = all; there = was.2; few = few_in c.loop-turn.front.items c.args.steps (ranks_of_turns ts) all }
